use Rattle.std.proofs.Common.{◌≡◌}
use Rattle.row_drawing.specs.Writes.{Appended}
use Rattle.vt100_core.specs.Contents.{is_below_wrapped}
use Rattle.vt100_core.specs.Writers.{lines_redraw}
use Rattle.vt100_core.proofs.grid.Grid.redraw_rows.Given as goal

-- the rows so far are drawn
abbrev pub invariant-loop-i : goal.invariant-loop-i
invariant-loop-i l = record {
  wrote : Appended (lines_redraw l.self l.i) l.initial.pen l.initial.contents l.pen l.contents;
  wraps : l.wrapping ≡ is_below_wrapped l.self l.i;
}
