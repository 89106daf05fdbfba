use Rattle.std.proofs.Common.{◌≡◌, ◌≤◌, length}
use Rattle.vt100_cells.specs.Cells.{cell_at}
use Rattle.vt100_rows.specs.Text.{line_text}
use Rattle.termview.proofs.text.text_len.Given as goal

abbrev pub invariant-loop-len : goal.invariant-loop-len
invariant-loop-len l = record {
  within : l.len ≤ length l.cells;
  same : line_text (cell_at l.cells) 0 l.len ≡ line_text (cell_at l.cells) 0 (length l.cells);
}

abbrev pub decreases-loop-len : goal.decreases-loop-len
decreases-loop-len l = l.len
