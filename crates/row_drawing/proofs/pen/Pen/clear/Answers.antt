use Rattle.std.proofs.Common.{refl}
use Rattle.row_drawing.specs.Writer.{clearing}
use Rattle.row_drawing.proofs.pen.Pen.clear.Goals as goal

pub returns-clause-written : goal.returns-clause-written
unfolding clearing
returns-clause-written c = record { pen_is = refl; text_is = c.push_str.ensures }
