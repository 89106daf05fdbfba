use Rattle.std.proofs.Common.{◌≡◌, ◌++◌, ◌^◌, ℕ, []}
use Rattle.picture_page.specs.Page.{Adds}
use Rattle.recorded_screen.specs.Reel.{decimal_point}
use Rattle.recorded_screen.proofs.ReelLemmas.{IsRest}
use Rattle.recorded_screen.proofs.reel.push_decimal.Given as goal

-- no text so far, and the digits that are left
abbrev pub invariant-loop-unit : goal.invariant-loop-unit
invariant-loop-unit l = record {
  adds : Adds l.fn.page l.page [];
  bytes : (places : ℕ) → l.fn.unit ≡ 10 ^ places
      → IsRest l.unit (l.fn.page ++ decimal_point places l.value) l.page l.value;
}

abbrev pub decreases-loop-unit : goal.decreases-loop-unit
decreases-loop-unit l = l.unit
