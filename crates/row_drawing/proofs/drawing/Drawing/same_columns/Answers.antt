use Rattle.std.proofs.Common.{◌+◌, arith}
use Rattle.row_drawing.specs.Drawing.{row_change_of}
use Rattle.row_drawing.proofs.KeptRows.{same_is_quiet}
use Rattle.row_drawing.proofs.drawing.Drawing.same_columns.Goals as goal

pub returns-in-None-clause-quiet : goal.returns-in-None-clause-quiet
returns-in-None-clause-quiet c =
    same_is_quiet (row_change_of c.args.self.now) c.args.pen.now c.args.self.now.start
    (c.args.self.now.start + c.min.result)
    c.in-None.is
    (λ k h l. c.requires k (omega arith) (omega (arith, h, l, c.min.ensures, c.saturating_sub.ensures)))
