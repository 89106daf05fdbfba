use Rattle.std.proofs.Common.{◌≡◌, ◌∙◌, ap, subst, ℕ, List, Ok, Err}
use Rattle.std.proofs.lemmas.Result.{err_from_is_err_and}
use Rattle.relay_commands.specs.Carried.{CarriesPiece}
use Rattle.relay_commands.proofs.CarryLemmas.{follows-of}
use Rattle.relay_commands.proofs.far_screen.carry_frames.Goals as goal

pub returns-in_err-each_piece : goal.returns-in_err-each_piece
returns-in_err-each_piece g c = λ rows cols lines at passes.
    let e = c.in_err-each_piece.field-0.0 in
    let made = c.from_residual in
    let p = err_from_is_err_and made.result made.ensures.1 in
    let is : made.result ≡ Err e = p.1 ∙ ap Err p.2 in
    rw is (follows-of g.row.S.Denot g.S.Source.gives rows cols lines _ _ _ _ c.each_piece.new.consumer _ _
    c.each_piece.new.to _ (Ok tt) at passes c.in_err-each_piece.ensures tt)

pub returns : goal.returns
returns g c = λ rows cols lines at passes.
    follows-of g.row.S.Denot g.S.Source.gives rows cols lines _ _ _ _ _ _ _ _ _ _ at passes c.in_ok-each_piece.ensures
    (subst (λ (bytes : List ℕ). CarriesPiece c.each_piece.new.consumer c.each_piece.new.to bytes c.take_piece.result
    c.take_piece.new.self c.take_piece.new.view) c.farewell.ensures c.take_piece.ensures.step)
