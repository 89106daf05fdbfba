use Rattle.row_drawing.proofs.WritesLemmas.{wrote_color}
use Rattle.row_drawing.proofs.pen.Pen.recolor.Goals as goal

pub returns-clause-written : goal.returns-clause-written
returns-clause-written c =
    rw (← c.attrs-attrs.ensures) (wrote_color _ _ _ _ c.push_escape_code_diff.ensures.bytes)
