use Rattle.std.proofs.Common.{rules}
use Rattle.row_drawing.proofs.WritesLemmas.{wrote_back}
use Rattle.row_drawing.proofs.pen.Pen.back.Goals as goal

pub returns-clause-written : goal.returns-clause-written
returns-clause-written c = wrote_back _ _ _ _ c.push_ascii.ensures.bytes (search rules)
