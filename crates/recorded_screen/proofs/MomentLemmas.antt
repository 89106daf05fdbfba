-- What the events up to a moment do, event by event.
use Rattle.std.proofs.Common.{◌≡◌, ℕ, Bool, List, [], ◌∷◌, ◌++◌, true, false, refl, ap, nat_le}
use Rattle.std.specs.Prelude.{if◌then◌else◌}
use Rattle.screen_model.specs.Made.{Act}
use Rattle.recordings.specs.declared.recording.Event.{Event}
use Rattle.recorded_screen.specs.Moment.{act_of, acts_until}

chosen-append : (b : Bool) (a : Act) (xs ys zs : List Act) → zs ≡ xs ++ ys
    → (if b then a ∷ zs else zs) ≡ (if b then a ∷ xs else xs) ++ ys
chosen-append true a xs ys zs e = ap (λ acts. a ∷ acts) e
chosen-append false a xs ys zs e = e

-- the acts of two parts of a recording are those of the first and then those of the second
pub acts_until-append : (m : ℕ) (xs ys : List Event) → acts_until m (xs ++ ys) ≡ acts_until m xs ++ acts_until m ys
acts_until-append m [] ys = refl
acts_until-append m (x ∷ xs) ys =
    chosen-append (nat_le x.time m) (act_of x.change) (acts_until m xs) (acts_until m ys) (acts_until m (xs ++ ys))
    (acts_until-append m xs ys)
