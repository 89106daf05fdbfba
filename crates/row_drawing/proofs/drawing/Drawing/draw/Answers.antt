use Rattle.std.proofs.Common.{ap, sym, ◌∙◌}
use Rattle.vt100_cells.specs.Cell.{has_text}
use Rattle.row_drawing.specs.Drawing.{row_change_of}
use Rattle.row_drawing.proofs.RowWrites.{drawn_here, span_fits, wrote_marking}
use Rattle.row_drawing.proofs.Columns.{draw-full, draw-marks, draw-passes}
use Rattle.row_drawing.proofs.WritesLemmas.{wrote_both, wrote_by, wrote_skip}
use Rattle.row_drawing.proofs.drawing.Drawing.draw.Goals as goal

pub print-requires-clause-fits : goal.print-requires-clause-fits
print-requires-clause-fits c =
    span_fits _ _ _ _ c.cell-cell.ensures c.args.self.now.few c.args.self.now.paired c.requires.in_row
    (drawn_here (row_change_of c.args.self.now) c.args.col _ _ c.arrive.ensures.written c.color.ensures.written).col

pub returns-then-has_contents-clause-written : goal.returns-then-has_contents-clause-written
returns-then-has_contents-clause-written c =
    wrote_by (draw-full _ _ _ _ _ _ c.cell-cell.ensures c.requires.other
    (sym c.has_contents.ensures ∙ c.if-has_contents.true) c.span.ensures c.loses_by_print.ensures)
    (wrote_both (wrote_both c.arrive.ensures.written c.color.ensures.written) c.print.ensures.written)

pub returns-in-None-clause-written : goal.returns-in-None-clause-written
returns-in-None-clause-written c =
    wrote_by (draw-marks _ _ _ _ _ c.cell-cell.ensures c.requires.other
    (sym c.has_contents.ensures ∙ c.if-has_contents.false) c.in-None.is c.attrs.ensures)
    (wrote_marking _ _ _ _ _ c.mark.ensures)

pub returns-in-Some-clause-written : goal.returns-in-Some-clause-written
returns-in-Some-clause-written c =
    wrote_by (draw-passes _ _ _ _ c.in-Some.is (ap has_text (sym c.cell-cell.ensures) ∙ sym c.has_contents.ensures
    ∙ c.if-has_contents.false)) (wrote_skip _ _)
