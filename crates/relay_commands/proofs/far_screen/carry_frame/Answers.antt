use Rattle.std.proofs.lemmas.Result.{err_from_is_err_and}
use Rattle.std.proofs.Common.{◌≡◌, ℕ, List, [], ◌∷◌, ◌++◌, ◌∙◌, Some, Err, sym, ap, refl, subst}
use Rattle.std.specs.List.{concat}
use Rattle.relay_streams.specs.Frames.{asked}
use Rattle.relay_streams.specs.Turns.{fault_of}
use Rattle.relay_streams.specs.declared.error.RelayError.TheVariants.{Memory}
use Rattle.relay_streams.proofs.TurnLemmas.{asks, turn-ends, feed-wants, frame-wants, pump-wants}
use Rattle.relay_commands.specs.Carried.{Carries}
use Rattle.relay_commands.proofs.CarryLemmas.{holds-all}
use Rattle.relay_commands.proofs.far_screen.carry_frame.Goals as goal

pub returns-in_err-feed : goal.returns-in_err-feed
returns-in_err-feed c = λ rows cols past base at.
    let e = c.in_err-feed.field-0.0 in
    let wants = feed-wants at c.args.piece.now c.feed.new.self e c.in_err-feed.ensures in
    let made = c.from_residual in
    let p = err_from_is_err_and made.result made.ensures.1 in
    let fault : c.from_residual.result ≡ Err (fault_of e) = p.1 ∙ ap Err p.2 in
    let is : c.from_residual.result ≡ Err Memory = fault ∙ ap Err wants.1 in
    rw is wants.0

pub returns-in_err-answer : goal.returns-in_err-answer
returns-in_err-answer c = λ rows cols past base at.
    let e = c.in_err-answer.field-0.0 in
    let wants = frame-wants at c.args.piece.now c.feed.new.self c.frame.new.self e c.in_ok-feed.ensures
    c.in_err-answer.ensures.frames in
    let made = c.from_residual-in_err-answer in
    let p = err_from_is_err_and made.result made.ensures.1 in
    let fault : c.from_residual-in_err-answer.result ≡ Err (fault_of e) = p.1 ∙ ap Err p.2 in
    let is : c.from_residual-in_err-answer.result ≡ Err Memory = fault ∙ ap Err wants.1 in
    rw is wants.0

pub returns-then-is_overlong : goal.returns-then-is_overlong
returns-then-is_overlong c = λ rows cols past base at.
    let made = asks at c.args.piece.now c.feed.new.self c.frame.new.self c.in_ok-answer.answer c.in_ok-feed.ensures
    c.in_ok-answer.ensures.frames in
    made.long ∙ sym c.is_overlong.ensures ∙ c.if-is_overlong.true

pub returns-in-Ok : goal.returns-in-Ok
returns-in-Ok c = λ rows cols past base at.
    let line = c.pump.new.to in
    let owed = (asked rows cols (concat (past ++ c.args.piece.now ∷ [])) base).owed in
    let made = asks at c.args.piece.now c.feed.new.self c.frame.new.self c.in_ok-answer.answer c.in_ok-feed.ensures
    c.in_ok-answer.ensures.frames in
    let turned = turn-ends _ _ c.pump.new.self c.new-line.result line made
    (sym c.is_overlong.ensures ∙ c.if-is_overlong.false) c.in-Ok.ensures in
    let whole : c.deref.result.now ≡ owed =
    c.deref.ensures.value
    ∙ holds-all _ (λ v. Some v.items) c.new-line.result line owed line.items turned.1.0 turned.1.1
    (ap (λ xs. Some xs) c.new-line.ensures.items) refl in (
      turned.0,
      subst (λ (xs : List ℕ). Carries c.args.view.now xs c.read_line.new.view) whole c.read_line.ensures,
      turned.2,
    )

pub returns : goal.returns
returns c = λ rows cols past base at.
    let made = asks at c.args.piece.now c.feed.new.self c.frame.new.self c.in_ok-answer.answer c.in_ok-feed.ensures
    c.in_ok-answer.ensures.frames in
    pump-wants _ _ c.pump.new.self c.new-line.result c.pump.new.to c.in-Err.field-0 made c.in-Err.ensures
