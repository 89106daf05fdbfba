use Rattle.std.proofs.Common.{rules}
use Rattle.row_drawing.proofs.WritesLemmas.{wrote_print}
use Rattle.row_drawing.proofs.pen.Pen.print.Goals as goal

pub returns-clause-written : goal.returns-clause-written
returns-clause-written c = wrote_print _ _ _ _ _ _ _ c.push_contents.ensures.text (search rules) (search rules)
