use Rattle.std.proofs.Common.{sym, ◌∙◌}
use Rattle.row_drawing.proofs.RowLeads.{arrive-turn, arrive-goto}
use Rattle.row_drawing.proofs.RowWrites.{wrote_turn}
use Rattle.row_drawing.proofs.WritesLemmas.{wrote_by}
use Rattle.row_drawing.proofs.drawing.Drawing.arrive.Goals as goal

pub returns-then-is_wrapping-clause-written : goal.returns-then-is_wrapping-clause-written
returns-then-is_wrapping-clause-written c =
    wrote_by (arrive-turn _ _ _ _ (sym c.is_wrapping.ensures ∙ c.if-is_wrapping.true))
    (wrote_turn _ _ _ _ c.turn.ensures)

pub returns-clause-written : goal.returns-clause-written
returns-clause-written c =
    wrote_by (arrive-goto _ _ _ _ (sym c.is_wrapping.ensures ∙ c.if-is_wrapping.false)) c.goto.ensures.written
