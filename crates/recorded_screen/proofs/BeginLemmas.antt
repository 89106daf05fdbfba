-- Where a film begins.
use Rattle.std.proofs.Common.{◌≡◌, ◌≤◌, ◌+◌, ◌-◌, ◌*◌, ◌/◌, ◌^◌, ◌∙◌, ℕ, zero, suc, List, Option, Some, None, ap, ap₂}
use Rattle.std.proofs.Common.{arith, sym, refl, max, min, true, false, Bool}
use Rattle.std.proofs.Math.Nat.{zero-div}
use Rattle.std.proofs.lemmas.Bool.{eq-eqb}
use Rattle.std.specs.Prelude.{◌==◌, not, slice_get}
use Rattle.std.specs.Option.{option_map_or}
use Rattle.recordings.specs.declared.recording.Event.{Event}
use Rattle.recorded_screen.specs.Film.{EarlierScreensDontStand, film_time, may_stand, paced, played_to, reached, slot}
use Rattle.recorded_screen.specs.Reel.{in_64_bits}
use Rattle.recorded_screen.specs.declared.films.Pace.{Pace}

-- a time of 0 in the recording is 0 in the film
no_time : (pace : Pace) → paced pace 0 ≡ 0
no_time pace =
    ap (λ (n : ℕ). in_64_bits (n * 1000000 / max pace.speed 1)) (shortest pace.idle)
    ∙ ap in_64_bits (zero-div (max pace.speed 1))
  where
    shortest : (idle : Option ℕ) → option_map_or (λ (i : ℕ). min 0 i) idle 0 ≡ 0
    shortest None = refl
    shortest (Some i) = omega arith

in_bits : (pace : Pace) (events : List Event) (n : ℕ)
    → in_64_bits (film_time pace events n + 0) ≡ film_time pace events n
in_bits pace events zero = refl
in_bits pace events (suc n) = omega arith

-- a time by the beginning
begun : (pace : Pace) (time : ℕ) → time ≤ pace.from → max pace.from time ≡ pace.from
begun pace time le = omega arith

same_slot : (pace : Pace) (a b : ℕ) → a ≡ b → not (slot pace a == slot pace b) ≡ false
same_slot pace a b is = ap (λ (t : ℕ). not (slot pace t == slot pace b)) is ∙ ap not (equal (slot pace b))
  where
    equal : (n : ℕ) → (n == n) ≡ true
    equal n = eq-eqb n n refl

pub stands_not : EarlierScreensDontStand
stands_not pace events n e at before soon =
    let next : reached events (suc n) ≡ e.time =
    ap (λ (o : Option Event). option_map_or (λ (x : Event). x.time) o 0) at in
    let gap : played_to pace events (suc n) - played_to pace events n ≡ 0 =
    ap₂ (λ (a b : ℕ). a - b) (ap (max pace.from) next ∙ begun pace e.time soon) (begun pace (reached events n) before)
    ∙ same pace.from in
    let time : film_time pace events (suc n) ≡ film_time pace events n =
    ap (λ (g : ℕ). in_64_bits (film_time pace events n + paced pace g)) gap
    ∙ ap (λ (w : ℕ). in_64_bits (film_time pace events n + w)) (no_time pace) ∙ in_bits pace events n in
    ap (λ (o : Option Event). option_map_or (λ (x : Event). not (slot pace (film_time pace events (suc n))
    == slot pace (film_time pace events n))) o true) at
    ∙ same_slot pace (film_time pace events (suc n)) (film_time pace events n) time
  where
    same : (k : ℕ) → k - k ≡ 0
    same k = omega arith
