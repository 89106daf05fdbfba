use Rattle.std.proofs.Common.{length, ◌-◌, ◌≡◌, ◌≤◌, take}
use Rattle.charset_filter.specs.Steady.{IsSteadyRun, place_at}
use Rattle.charset_filter.specs.declared.steady.Place.TheVariants.{Outside}
use Rattle.charset_filter.proofs.steady.steady_len.Given as goal

abbrev pub invariant-loop-at : goal.invariant-loop-at
invariant-loop-at l = record {
  within : l.len ≤ length l.bytes;
  scanned : l.at ≤ length l.bytes;
  place : place_at Outside (take l.at l.bytes) ≡ l.place;
  steady : IsSteadyRun (take l.len l.bytes);
}

abbrev pub decreases-loop-at : goal.decreases-loop-at
decreases-loop-at l = length l.bytes - l.at
