use Rattle.std.proofs.Common.{◌≡◌}
use Rattle.row_drawing.specs.Writes.{Appended}
use Rattle.vt100_core.specs.Contents.{is_below_wrapped}
use Rattle.vt100_core.specs.Writers.{lines_difference}
use Rattle.vt100_core.proofs.grid.Grid.rows_diff.Given as goal

-- the rows so far are drawn
abbrev pub invariant-loop-i : goal.invariant-loop-i
invariant-loop-i l = record {
  wrote : Appended (lines_difference l.self l.prev l.i) l.initial.pen l.initial.contents l.pen l.contents;
  wraps : l.wrapping ≡ is_below_wrapped l.self l.i;
  wrapped : l.prev_wrapping ≡ is_below_wrapped l.prev l.i;
}
