use Rattle.row_drawing.proofs.Columns.{finish-is_none, finish-is_some}
use Rattle.row_drawing.proofs.WritesLemmas.{appended_by, appended_run, appended_skip, refused_run, wrote_both}
use Rattle.row_drawing.proofs.WritesLemmas.{wrote_by}
use Rattle.row_drawing.proofs.drawing.Drawing.finish.Goals as goal

pub returns-in_default : goal.returns-in_default
returns-in_default c = appended_by (finish-is_none _ _ c.in_default.is) (appended_skip _ _)

pub returns-in_err-move_to : goal.returns-in_err-move_to
returns-in_err-move_to c =
    refused_run c.from_residual.result _ _ _ c.from_residual.ensures.0 c.new-run.ensures
    (wrote_by (finish-is_some _ _ _ c.in-Some.is) (wrote_both c.to_erase.ensures.written c.clear.ensures.written))
    c.in_err-move_to.ensures.bytes c.in_err-move_to.ensures.full

pub returns : goal.returns
returns c =
    appended_run _ _ c.new-run.ensures
    (wrote_by (finish-is_some _ _ _ c.in-Some.is) (wrote_both c.to_erase.ensures.written c.clear.ensures.written))
    c.in_ok-move_to.ensures.bytes c.in_ok-move_to.ensures.capacity
