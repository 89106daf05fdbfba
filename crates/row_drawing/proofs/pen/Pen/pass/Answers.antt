use Rattle.row_drawing.proofs.RowWrites.{passed}
use Rattle.row_drawing.proofs.pen.Pen.pass.Goals as goal

pub returns : goal.returns
returns c = passed c.args.cell.now c.args.self.now c.span.result c.span.ensures
