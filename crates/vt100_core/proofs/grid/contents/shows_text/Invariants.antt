use Rattle.std.proofs.Common.{◌≡◌, ◌<◌, ℕ, false}
use Rattle.vt100_cells.specs.Cell.{has_text}
use Rattle.vt100_cells.specs.Cells.{cell_at}
use Rattle.vt100_core.proofs.grid.contents.shows_text.Given as goal

abbrev pub invariant-loop-col : goal.invariant-loop-col
invariant-loop-col l = (k : ℕ) → k < l.col → has_text (cell_at l.row.cells k) ≡ false
