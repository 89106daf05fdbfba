use Rattle.row_drawing.specs.Drawing.{row_change_of}
use Rattle.row_drawing.specs.RowWriter.{row_difference}
use Rattle.row_drawing.proofs.KeptRows.{difference-is, settled_kept, wrote_difference_kept}
use Rattle.row_drawing.proofs.WritesLemmas.{appended_none, refused_first, refused, writes_last}
use Rattle.row_drawing.proofs.drawing.Drawing.difference.Goals as goal

pub returns-then-is_settled : goal.returns-then-is_settled
returns-then-is_settled c =
    appended_none _ (wrote_difference_kept (row_change_of c.args.self.now) c.args.count _ _ (settled_kept _ _
    (c.is_settled.ensures c.if-is_settled.true)))

pub returns-in_err-redraw_behind : goal.returns-in_err-redraw_behind
returns-in_err-redraw_behind c =
    refused _ (row_difference (row_change_of c.args.self.now) c.args.count) c.args.pen.now _ c.from_residual.ensures.0
    (difference-is _ _ _) (refused_first _ c.in_err-redraw_behind.ensures)

pub returns : goal.returns
returns c =
    writes_last (row_difference (row_change_of c.args.self.now) c.args.count) c.args.pen.now _ _ _ _
    (difference-is _ _ _)
    c.in_ok-redraw_behind.ensures c.closing.ensures
