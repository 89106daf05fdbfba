use Rattle.std.proofs.Common.{sym, ◌∙◌}
use Rattle.row_drawing.proofs.RowStart.{reprint-empty, reprint-wide, reprint-narrow}
use Rattle.row_drawing.proofs.WritesLemmas.{wrote_both, wrote_by}
use Rattle.row_drawing.proofs.drawing.Drawing.reprint.Goals as goal

pub returns-then-not-has_contents-clause-written : goal.returns-then-not-has_contents-clause-written
returns-then-not-has_contents-clause-written c =
    wrote_by (reprint-empty _ _ _ _ (sym c.has_contents.ensures ∙ c.if-not-has_contents.true) c.loses_by_erase.ensures)
    (wrote_both (wrote_both c.space.ensures.written c.back.ensures.written) c.erase.ensures.written)

pub returns-then-is_wide-clause-written : goal.returns-then-is_wide-clause-written
returns-then-is_wide-clause-written c =
    wrote_by (reprint-wide _ _ _ (sym c.has_contents.ensures ∙ c.if-not-has_contents.false)
    (sym c.is_wide.ensures.value ∙ c.if-is_wide.true))
    (wrote_both c.print.ensures.written (wrote_both c.back-then-is_wide.ensures.written
    c.back-then-is_wide-2.ensures.written))

pub returns-clause-written : goal.returns-clause-written
returns-clause-written c =
    wrote_by (reprint-narrow _ _ _ (sym c.has_contents.ensures ∙ c.if-not-has_contents.false)
    (sym c.is_wide.ensures.value ∙ c.if-is_wide.false)) (wrote_both c.print.ensures.written c.back-2.ensures.written)
