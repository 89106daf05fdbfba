use Rattle.std.proofs.Common.{sym}
use Rattle.row_drawing.specs.Drawing.{row_change_of}
use Rattle.row_drawing.proofs.RowWrites.{gone_col, last_inside, span_fits}
use Rattle.row_drawing.proofs.RowEnd.{closing-none, closing-some}
use Rattle.row_drawing.proofs.WritesLemmas.{appended_by, appended_run, appended_skip, refused_run, wrote_both, wrote_by}
use Rattle.row_drawing.proofs.drawing.Drawing.closing.Goals as goal

pub returns-then-not-owes_end : goal.returns-then-not-owes_end
returns-then-not-owes_end c = appended_by (closing-none _ _ (sym c.if-not-owes_end.ensures)) (appended_skip _ _)

pub mend-requires-clause-fits : goal.mend-requires-clause-fits
mend-requires-clause-fits c =
    span_fits _ _ _ _ c.cell.ensures c.args.self.now.few c.args.self.now.paired
    (last_inside (row_change_of c.args.self.now) _ c.requires c.last_col-col.ensures)
    (gone_col _ _ c.goto.ensures.written)

pub returns-in_err-move_to : goal.returns-in_err-move_to
returns-in_err-move_to c =
    refused_run c.from_residual.result _ _ _ c.from_residual.ensures.0 c.new-run.ensures
    (wrote_by (closing-some _ _ _ _ (sym c.if-not-owes_end.ensures) c.last_col-col.ensures c.cell.ensures)
    (wrote_both c.goto.ensures.written c.mend.ensures.written))
    c.in_err-move_to.ensures.bytes c.in_err-move_to.ensures.full

pub returns : goal.returns
returns c =
    appended_run _ _ c.new-run.ensures
    (wrote_by (closing-some _ _ _ _ (sym c.if-not-owes_end.ensures) c.last_col-col.ensures c.cell.ensures)
    (wrote_both c.goto.ensures.written c.mend.ensures.written))
    c.in_ok-move_to.ensures.bytes c.in_ok-move_to.ensures.capacity
