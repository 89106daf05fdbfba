use Rattle.std.proofs.Common.{sym, ◌∙◌}
use Rattle.row_drawing.specs.Drawing.{row_change_of}
use Rattle.row_drawing.proofs.RowWrites.{turned_room, wrote_turn}
use Rattle.row_drawing.proofs.RowStart.{opening-none, opening-some}
use Rattle.row_drawing.proofs.WritesLemmas.{appended_by, appended_run, appended_skip, refused_run, wrote_both, wrote_by}
use Rattle.row_drawing.proofs.drawing.Drawing.opening.Goals as goal

pub returns-then-not-owes_flag : goal.returns-then-not-owes_flag
returns-then-not-owes_flag c =
    appended_by (opening-none _ _ (sym c.owes_flag.ensures ∙ c.if-not-owes_flag.true)) (appended_skip _ _)

pub reprint-requires-clause-fits : goal.reprint-requires-clause-fits
reprint-requires-clause-fits c = turned_room _ _ _ c.turn.ensures c.color.ensures.written

pub returns-in_err-move_to : goal.returns-in_err-move_to
returns-in_err-move_to c =
    refused_run c.from_residual.result _ _ _ c.from_residual.ensures.0 c.new-run.ensures
    (wrote_by (opening-some (row_change_of c.args.self.now) _ _ c.cell-first.ensures
    (sym c.owes_flag.ensures ∙ c.if-not-owes_flag.false))
    (wrote_both (wrote_both (wrote_turn _ _ _ _ c.turn.ensures) c.color.ensures.written) c.reprint.ensures.written))
    c.in_err-move_to.ensures.bytes c.in_err-move_to.ensures.full

pub returns : goal.returns
returns c =
    appended_run _ _ c.new-run.ensures
    (wrote_by (opening-some (row_change_of c.args.self.now) _ _ c.cell-first.ensures
    (sym c.owes_flag.ensures ∙ c.if-not-owes_flag.false))
    (wrote_both (wrote_both (wrote_turn _ _ _ _ c.turn.ensures) c.color.ensures.written) c.reprint.ensures.written))
    c.in_ok-move_to.ensures.bytes c.in_ok-move_to.ensures.capacity
