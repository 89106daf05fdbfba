use Rattle.row_drawing.specs.Drawing.{row_change_of}
use Rattle.row_drawing.specs.RowWriter.{row_redraw}
use Rattle.row_drawing.proofs.KeptRows.{redraw-is}
use Rattle.row_drawing.proofs.WritesLemmas.{refused_first, refused_then, refused, appended_both, writes_last}
use Rattle.row_drawing.proofs.drawing.Drawing.redraw_behind.Goals as goal

pub returns-in_err-opening : goal.returns-in_err-opening
returns-in_err-opening c =
    refused _ (row_redraw (row_change_of c.args.self.now) c.args.count) c.args.pen.now _ c.from_residual.ensures.0
    (redraw-is _ _ _) (refused_first _ (refused_first _ c.in_err-opening.ensures))

pub returns-in_err-columns : goal.returns-in_err-columns
returns-in_err-columns c =
    refused _ (row_redraw (row_change_of c.args.self.now) c.args.count) c.args.pen.now _
    c.from_residual-in_err-columns.ensures.0 (redraw-is _ _ _)
    (refused_first _ (refused_then c.in_ok-opening.ensures c.in_err-columns.ensures))

pub returns : goal.returns
returns c =
    writes_last (row_redraw (row_change_of c.args.self.now) c.args.count) c.args.pen.now _ _ _ _ (redraw-is _ _ _)
    (appended_both c.in_ok-opening.ensures c.in_ok-columns.ensures) c.finish.ensures
