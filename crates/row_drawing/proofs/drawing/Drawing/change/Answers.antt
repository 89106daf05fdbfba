use Rattle.std.proofs.Common.{sym, ◌∙◌}
use Rattle.row_drawing.proofs.Columns.{draw-is_same, column-is_half, column-is_whole}
use Rattle.row_drawing.proofs.WritesLemmas.{wrote_both, wrote_by, wrote_skip}
use Rattle.row_drawing.proofs.drawing.Drawing.change.Goals as goal

pub returns-then-is_half : goal.returns-then-is_half
returns-then-is_half c = wrote_by (column-is_half _ _ _ (sym c.is_half.ensures ∙ c.if-is_half.true)) (wrote_skip _ _)

pub returns-then-is_same : goal.returns-then-is_same
returns-then-is_same c =
    wrote_by (column-is_whole _ _ _ (sym c.is_half.ensures ∙ c.if-is_half.false)) (wrote_both c.flush.ensures.written
    (wrote_by (draw-is_same _ _ _ (sym c.is_same.ensures ∙ c.if-is_same.true)) (wrote_skip _ _)))

pub draw-requires-clause-other : goal.draw-requires-clause-other
draw-requires-clause-other c = sym c.is_same.ensures ∙ c.if-is_same.false

pub returns : goal.returns
returns c =
    wrote_by (column-is_whole _ _ _ (sym c.is_half.ensures ∙ c.if-is_half.false))
    (wrote_both c.flush.ensures.written c.draw.ensures.written)
