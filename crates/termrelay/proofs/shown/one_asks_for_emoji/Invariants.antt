use Rattle.std.proofs.Common.{◌≡◌, false}
use Rattle.vt100_cells.specs.Cells.{cell_at}
use Rattle.termrelay.specs.Frame.{any_below, asks_for_emoji}
use Rattle.termrelay.proofs.shown.one_asks_for_emoji.Given as goal

-- none so far
abbrev pub invariant-loop-cell : goal.invariant-loop-cell
invariant-loop-cell l = any_below l.cell-index (λ k. asks_for_emoji (cell_at l.cells k)) ≡ false
