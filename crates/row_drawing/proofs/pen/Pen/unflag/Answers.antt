use Rattle.std.proofs.Common.{sym, ◌∙◌}
use Rattle.row_drawing.proofs.RowEnd.{unflag-empty, unflag-full}
use Rattle.row_drawing.proofs.WritesLemmas.{wrote_both, wrote_by}
use Rattle.row_drawing.proofs.pen.Pen.unflag.Goals as goal

pub returns-then-has_contents-clause-written : goal.returns-then-has_contents-clause-written
returns-then-has_contents-clause-written c =
    wrote_by (unflag-full _ _ (sym c.has_contents.ensures ∙ c.if-has_contents.true)) c.erase.ensures.written

pub returns-clause-written : goal.returns-clause-written
returns-clause-written c =
    wrote_by (unflag-empty _ _ (sym c.has_contents.ensures ∙ c.if-has_contents.false))
    (wrote_both c.color.ensures.written c.erase-2.ensures.written)
