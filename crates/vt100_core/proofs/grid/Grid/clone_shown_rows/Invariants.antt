use Rattle.std.proofs.Common.{◌≡◌}
use Rattle.vt100_rows.specs.Sheet.{rows_by_position}
use Rattle.vt100_core.specs.Copy.{fitted_at}
use Rattle.vt100_core.proofs.grid.Grid.clone_shown_rows.Given as goal

abbrev pub invariant-loop-r : goal.invariant-loop-r
invariant-loop-r l = l.rows ≡ rows_by_position l.r (fitted_at l.self)
