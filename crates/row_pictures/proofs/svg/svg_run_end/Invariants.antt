use Rattle.std.proofs.Common.{◌-◌, ◌<◌, ◌≤◌}
use Rattle.row_pictures.specs.Runs.{AreInPlace}
use Rattle.row_pictures.proofs.svg.svg_run_end.Given as goal

abbrev pub invariant-loop-place : goal.invariant-loop-place
invariant-loop-place l = record {
  more : l.start < l.place;
  within : l.place ≤ l.end;
  in_place : AreInPlace l.cells l.start l.place;
}

abbrev pub decreases-loop-place : goal.decreases-loop-place
decreases-loop-place l = l.end - l.place
