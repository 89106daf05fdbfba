-- The calls of what was parsed, with the closings among them.
use Rattle.std.proofs.Common.{◌≡◌, ℕ, zero, suc, ◌+◌, Bool, true, false, List, [], ◌∷◌, ◌++◌, Option, None, Some, take}
use Rattle.std.proofs.Common.{drop, refl, ap, sym, ◌∙◌, subst, append_assoc, append-nil, inl, inr, arith}
use Rattle.std.proofs.lemmas.Bool.{cases_Bool}
use Rattle.vte_core.specs.Shapes.{events}
use Rattle.vte_core.proofs.AddedLemmas.{added-none, added-first}
use Rattle.vte_types.specs.Call.{Call, Calls, unset_private_mode}
use Rattle.vte_types.specs.declared.mode.PrivateMode.TheVariants.{Named}
use Rattle.vte_types.specs.declared.mode.NamedPrivateMode.TheVariants.{SyncUpdate}
use Rattle.vte.specs.Timeout.{Ticking, Tick, Clears, Ticked}
use Rattle.vte.specs.Performed.{calls_of_all}
use Rattle.vte.specs.Stretch.{calls_from, ticks_from}
use Rattle.vte.specs.Hold as hold
use Rattle.vte.specs.Hold.{Settles, keeps, replays, closes, Takes}
use Rattle.vte.specs.Advances as any
use Rattle.vte.specs.Advances.{Advances}
use Rattle.vte.specs.Closings.{is_closing, without_closings, WithClosings, none, call, closing, clearings, Parses}
use Rattle.vte.specs.Moves.{Move, given, Runs, ends, gives, stops}
use Rattle.vte.specs.Laws.{IgnoresClosings}
use Rattle.vte.proofs.HoldLemmas.{calls_from-append}
use Rattle.vte.proofs.RunLemmas.{Ticked-append}
use Rattle.vte.proofs.SetLemmas.{clearings-append, from_clears_none, renewed}
use Rattle.vte.proofs.LawLemmas.{conserve_any}

-- closings among calls

with_none : (cs : List Call) → WithClosings cs zero cs
with_none [] = none
with_none (c ∷ cs) = call c cs zero cs (with_none cs)

with_more : (a : List Call) (m : ℕ) (x : List Call) (b : List Call) (n : ℕ) (y : List Call) → WithClosings a m x
    → WithClosings b n y → WithClosings (a ++ b) (m + n) (x ++ y)
with_more [] zero [] b n y none k = let e : n ≡ zero + n = omega arith in subst (λ (i : ℕ). WithClosings b i y) e k
with_more (c ∷ a) m (_ ∷ x) b n y (call _ _ _ _ h) k = call c (a ++ b) (m + n) (x ++ y) (with_more a m x b n y h k)
with_more a (suc m) (_ ∷ x) b n y (closing _ _ _ h) k =
    let e : suc (m + n) ≡ suc m + n = omega arith in
    subst (λ (i : ℕ). WithClosings (a ++ b) i (unset_private_mode (Named SyncUpdate) ∷ (x ++ y))) e
    (closing (a ++ b) (m + n) (x ++ y) (with_more a m x b n y h k))
with_more [] (suc m) [] b n y h k = elim h [ ]
with_more (c ∷ a) m [] b n y h k = elim h [ ]

pub filtered : (cs : List Call) (n : ℕ) (calls : List Call) → WithClosings cs n calls
    → without_closings calls ≡ without_closings cs
filtered [] n calls none = refl
filtered (c ∷ cs) n (_ ∷ calls) (call _ _ _ _ h) = elim (cases_Bool (is_closing c)) [
  | inl e ↦ rw e (filtered cs n calls h)
  | inr e ↦ rw e (ap (λ ds. c ∷ ds) (filtered cs n calls h))
]
filtered cs (suc n) (_ ∷ calls) (closing _ _ _ h) = filtered cs n calls h

pub ignored : {H : Type 0} (step : H → Call → H → Type 0) → IgnoresClosings step
ignored {H} step idle [] n calls s t none g = g
ignored {H} step idle (c ∷ cs) n (_ ∷ calls) s t (call _ _ _ _ h) g =
    (g.0, g.1, ignored step idle cs n calls g.0 t h g.2)
ignored {H} step idle cs (suc n) (_ ∷ calls) s t (closing _ _ _ h) g =
    subst (λ (x : H). Calls step x cs t) (idle s g.0 g.1) (ignored step idle cs n calls g.0 t h g.2)

-- what was parsed

none_parsed : (p : List ℕ) → Parses p p zero []
none_parsed p = record { bytes = []; more = sym (append-nil p); made = rw (added-none 1024 p) none }

bytes_parsed : (p b : List ℕ) → Parses p (p ++ b) zero (calls_from p b)
bytes_parsed p b = record { bytes = b; more = refl; made = with_none (calls_from p b) }

closed_parsed : (p b : List ℕ) → Parses p (p ++ b) 1 (calls_from p b ++ hold.closing)
closed_parsed p b = record {
  bytes = b;
  more = refl;
  made = subst (λ (cs : List Call). WithClosings cs 1 (calls_from p b ++ hold.closing)) (append-nil (calls_from p b))
      (with_more (calls_from p b) zero (calls_from p b) [] 1 hold.closing (with_none (calls_from p b))
      (closing [] zero [] none));
}

then_parsed : {p q r : List ℕ} {m n : ℕ} {x y : List Call} → Parses p q m x → Parses q r n y
    → Parses p r (m + n) (x ++ y)
then_parsed {p} {m = m} {n = n} {x = x} {y = y} h k = record {
  bytes = h.bytes ++ k.bytes;
  more = k.more ∙ (ap (λ s. s ++ k.bytes) h.more ∙ append_assoc p h.bytes k.bytes);
  made =
      let second = subst (λ (s : List ℕ). WithClosings (calls_from s k.bytes) n y) h.more k.made in
      subst (λ (cs : List Call). WithClosings cs (m + n) (x ++ y)) (sym (calls_from-append p h.bytes k.bytes))
      (with_more (calls_from p h.bytes) m x (calls_from (p ++ h.bytes) k.bytes) n y h.made second);
}

-- how often the timeout was cleared

closed_clears : (p b : List ℕ) → clearings (ticks_from p b ++ Clears ∷ []) ≡ 1
closed_clears p b = clearings-append (ticks_from p b) (Clears ∷ []) ∙ (let e = from_clears_none p b in omega (arith, e))

counted : {p q : List ℕ} {m n : ℕ} {calls : List Call} → m ≡ n → Parses p q m calls → Parses p q n calls
counted {p} {q} {calls = calls} e h = subst (λ (i : ℕ). Parses p q i calls) e h

-- one step after another

-- after bytes that were parsed
begun : (p b q : List ℕ) (cs : List Call) (ts : List Tick) → Parses (p ++ b) q (clearings ts) cs
    → Parses p q (clearings (ticks_from p b ++ ts)) (calls_from p b ++ cs)
begun p b q cs ts h =
    let e : zero + clearings ts ≡ clearings (ticks_from p b ++ ts) =
    omega (arith, clearings-append (ticks_from p b) ts, from_clears_none p b) in
    counted e (then_parsed (bytes_parsed p b) h)

-- and a closing
closed : (p b q : List ℕ) (cs : List Call) (ts : List Tick) → Parses (p ++ b) q (clearings ts) cs
    → Parses p q (clearings ((ticks_from p b ++ Clears ∷ []) ++ ts)) ((calls_from p b ++ hold.closing) ++ cs)
closed p b q cs ts h =
    let e : 1 + clearings ts ≡ clearings ((ticks_from p b ++ Clears ∷ []) ++ ts) =
    omega (arith, clearings-append (ticks_from p b ++ Clears ∷ []) ts, closed_clears p b) in
    counted e (then_parsed (closed_parsed p b) h)

settled : {parsed held piece parsed' : List ℕ} {hold' : Option (List ℕ)} {calls : List Call} {ticks : List Tick}
    → Settles parsed held piece parsed' hold' calls ticks → Parses parsed parsed' (clearings ticks) calls
settled (keeps parsed _ _ ticks r _) = counted (renewed _ _ ticks [] r ∙ ap clearings (append-nil ticks))
    (none_parsed parsed)
settled (replays parsed held piece first r n cut) =
    let b = take n (held ++ piece) in
    counted (sym (from_clears_none parsed b) ∙ renewed _ _ first (ticks_from parsed b) r) (bytes_parsed parsed b)
settled (closes parsed held piece first r c) =
    let b = held ++ piece in
    counted (sym (closed_clears parsed b) ∙ renewed _ _ first (ticks_from parsed b ++ Clears ∷ []) r)
    (closed_parsed parsed b)

pub taken_parsed : (parsed : List ℕ) (hold' : Option (List ℕ)) (piece parsed' : List ℕ) (hold'' : Option (List ℕ))
    (calls : List Call) (ticks : List Tick)
    → Takes parsed hold' piece parsed' hold'' calls ticks → Parses parsed parsed' (clearings ticks) calls
taken_parsed parsed h piece parsed' h' calls ticks (hold.parses _ _ _) = bytes_parsed parsed piece
taken_parsed parsed h piece parsed' h' calls ticks (hold.begins _ _ n _ _ cs ts at t) =
    begun parsed (take n piece) parsed' cs ts (taken_parsed (parsed
    ++ take n piece) (Some []) (drop n piece) parsed' h' cs ts t)
taken_parsed parsed h piece parsed' h' calls ticks (hold.settles _ held _ _ _ _ _ fits s) =
    settled s
taken_parsed parsed h piece parsed' h' calls ticks (hold.overflows _ held _ _ _ cs ts full t) =
    closed parsed held parsed' cs ts (taken_parsed (parsed ++ held) None piece parsed' h' cs ts t)

-- what is parsed under any timeout
module _ {T : Type 0} (ticking : Ticking T) where
  pub advanced_parsed : (closed : Bool) (t : T) (parsed held piece : List ℕ) (t' : T) (parsed' held' : List ℕ)
      (calls : List Call)
      → Advances ticking closed t parsed held piece t' parsed' held' calls → (ticks : List Tick)
      × Ticked ticking t ticks t' × Parses parsed parsed' (clearings ticks) calls
  advanced_parsed shut t parsed held piece t' parsed' held' calls (any.parses _ _ _ _ free _) =
      ([], refl, bytes_parsed parsed piece)
  advanced_parsed shut t parsed held piece t' parsed' held' calls (any.begins _ _ _ _ n u _ _ _ cs free at y f) =
      let b = take n piece in
      let (ts, z, more) = advanced_parsed false u (parsed ++ b) [] (drop n piece) t' parsed' held' cs f in (
        ticks_from parsed b ++ ts,
        Ticked-append ticking t u t' (ticks_from parsed b) ts y z,
        begun parsed b parsed' cs ts more,
      )
  advanced_parsed shut t parsed held piece t' parsed' held' calls
      (any.settles _ _ _ _ _ _ hold' _ ticks open_ fits s y) =
      (ticks, y, settled s)
  advanced_parsed shut t parsed held piece t' parsed' held' calls
      (any.empties _ _ _ _ is_open u _ _ _ cs asked must y f) =
      let (ts, z, more) = advanced_parsed true u (parsed ++ held) [] piece t' parsed' held' cs f in (
        (ticks_from parsed held ++ Clears ∷ []) ++ ts,
        Ticked-append ticking t u t' (ticks_from parsed held ++ Clears ∷ []) ts y z,
        closed parsed held parsed' cs ts more,
      )

  -- all that was given
  ran : (moves : List Move) (t : T) (p h : List ℕ) (t' : T) (p' h' : List ℕ) (calls : List Call)
      → Runs ticking moves t p h t' p' h' calls
      → (p ++ (h ++ given moves) ≡ p' ++ h') × (ticks : List Tick) × Ticked ticking t ticks t'
      × Parses p p' (clearings ticks) calls
  ran moves t p h t' p' h' calls (ends _ _ _) = (ap (λ s. p ++ s) (append-nil h), [], refl, none_parsed p)
  ran moves t p h t' p' h' calls (gives piece rest _ _ _ u q k cs _ _ _ ds a r) =
      let (all, us, z, more) = ran rest u q k t' p' h' ds r in
      let (ts, y, one) = advanced_parsed false t p h piece u q k cs a in
      let same : p ++ (h ++ (piece ++ given rest)) ≡ q ++ (k ++ given rest) =
      ap (λ s. p ++ s) (sym (append_assoc h piece (given rest))) ∙ (sym (append_assoc p (h ++ piece) (given rest))
      ∙ (ap (λ s. s ++ given rest) (conserve_any a)
      ∙ append_assoc q k (given rest))) in (
        same ∙ all,
        ts ++ us,
        Ticked-append ticking t u t' ts us y z,
        counted (sym (clearings-append ts us)) (then_parsed one more),
      )
  ran moves t p h t' p' h' calls (stops rest _ _ _ u _ _ _ ds y r) =
      let (all, us, z, more) = ran rest u (p ++ h) [] t' p' h' ds r in (
        sym (append_assoc p h (given rest)) ∙ all,
        (ticks_from p h ++ Clears ∷ []) ++ us,
        Ticked-append ticking t u t' (ticks_from p h ++ Clears ∷ []) us y z,
        closed p h p' ds us more,
      )

  pub all_ran : (moves : List Move) (t t' : T) (parsed held : List ℕ) (calls : List Call)
      → Runs ticking moves t [] [] t' parsed held calls
      → (given moves ≡ parsed ++ held) × (ticks : List Tick) × Ticked ticking t ticks t'
      × WithClosings (calls_of_all None (events 1024 parsed)) (clearings ticks) calls
  all_ran moves t t' parsed held calls r =
      let (all, ticks, y, made) = ran moves t [] [] t' parsed held calls r in
      let first = ap (calls_of_all None) (added-first 1024 made.bytes ∙ ap (events 1024) (sym made.more)) in
      (all, ticks, y, subst (λ (cs : List Call). WithClosings cs (clearings ticks) calls) first made.made)
