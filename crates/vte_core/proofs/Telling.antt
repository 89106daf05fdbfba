-- Steps of a performer.
use Rattle.std.proofs.Common.{◌≡◌, ◌<◌, ◌+◌, ℕ, Bool, true, List, [], ◌∷◌, ◌++◌, length, map, take, get_or, refl, subst}
use Rattle.std.proofs.Common.{arith}
use Rattle.std.proofs.lemmas.List.{map-append, take_more}
use Rattle.vte_core.specs.Event.{Event, Performs}
use Rattle.vte_core.specs.Runs.{TellsEach}
use Rattle.vte_core.proofs.PhaseLemmas.{each-more}

pub same_step : {S : Type 0} (step : S → Event → S → Type 0) (old new : S) (d e : Event) → d ≡ e → step old d new
    → step old e new
same_step {S} step old new d e h s = subst (λ (x : Event). step old x new) h s

pub same_events : {S : Type 0} (step : S → Event → S → Type 0) (old new : S) (ds es : List Event) → ds ≡ es
    → Performs step old ds new → Performs step old es new
same_events {S} step old new ds es h s = subst (λ (x : List Event). Performs step old x new) h s

pub performs-append : {S : Type 0} (step : S → Event → S → Type 0) (old mid new : S) (es fs : List Event)
    → Performs step old es mid → Performs step mid fs new → Performs step old (es ++ fs) new
performs-append {S} step old mid new [] fs h k = subst (λ (x : S). Performs step x fs new) h k
performs-append {S} step old mid new (e ∷ es) fs (m, s, h) k = (m, s, performs-append step m mid new es fs h k)

-- one more event of a kind, after those of the elements before it
pub performs-last : {S : Type 0} (step : S → Event → S → Type 0) (f : ℕ → Event) (xs : List ℕ) (x : ℕ) (old mid new : S)
    → Performs step old (map f xs) mid → step mid (f x) new → Performs step old (map f (xs ++ x ∷ [])) new
performs-last {S} step f xs x old mid new h s =
    rw (map-append f xs (x ∷ [])) (performs-append step old mid new (map f xs) (f x ∷ []) h (new, s, refl))

pub performs-next : {S : Type 0} (step : S → Event → S → Type 0) (f : ℕ → Event) (xs : List ℕ) (i : ℕ)
    (old mid new : S) → i < length xs → Performs step old (map f (take i xs)) mid → step mid (f (get_or xs i 0)) new
    → Performs step old (map f (take (i + 1) xs)) new
performs-next {S} step f xs i old mid new lt h s =
    rw (take_more xs i 0 lt) (performs-last step f (take i xs) (get_or xs i 0) old mid new h s)

pub tells_next : {S : Type 0} {step : S → Event → S → Type 0} {p : ℕ → Bool} {f : ℕ → Event} {old mid new : S}
    {bs : List ℕ} {i : ℕ} → TellsEach step p f old bs i mid → i < length bs → p (get_or bs i 0) ≡ true
    → step mid (f (get_or bs i 0)) new → TellsEach step p f old bs (i + 1) new
tells_next {S} {step} {p} {f} {old} {mid} {new} {bs} {i} so less passes one = record {
  within = omega (arith, less);
  all = rw (take_more bs i 0 less) (each-more p (take i bs) (get_or bs i 0) so.all passes);
  reported = performs-next step f bs i old mid new less so.reported one;
}
