use Rattle.std.proofs.lemmas.Result.{err_from_is_err_and}
use Rattle.std.proofs.Common.{◌≡◌, ◌∙◌, Err, ap, refl, sym}
use Rattle.relay_streams.specs.declared.error.RelayError.TheVariants.{Memory}
use Rattle.relay_streams.specs.Turns.{fault_of}
use Rattle.relay_streams.proofs.TurnLemmas.{asks, turn-ends, turn-breaks, feed-wants, frame-wants}
use Rattle.relay_streams.proofs.relaying.turn.Goals as goal

pub returns-in_err-feed : goal.returns-in_err-feed
returns-in_err-feed g c = λ rows cols past base at.
    let e = c.in_err-feed.field-0.0 in
    let wants = feed-wants at c.args.piece.now c.feed.new.self e c.in_err-feed.ensures in
    let made = c.from_residual in
    let p = err_from_is_err_and made.result made.ensures.1 in
    let fault : c.from_residual.result ≡ Err (fault_of e) = p.1 ∙ ap Err p.2 in
    let is : c.from_residual.result ≡ Err Memory = fault ∙ ap Err wants.1 in
    rw is (wants.0, refl)

pub returns-in_err-answer : goal.returns-in_err-answer
returns-in_err-answer g c = λ rows cols past base at.
    let e = c.in_err-answer.field-0.0 in
    let wants = frame-wants at c.args.piece.now c.feed.new.self c.frame.new.self e c.in_ok-feed.ensures
    c.in_err-answer.ensures.frames in
    let made = c.from_residual-in_err-answer in
    let p = err_from_is_err_and made.result made.ensures.1 in
    let fault : c.from_residual-in_err-answer.result ≡ Err (fault_of e) = p.1 ∙ ap Err p.2 in
    let is : c.from_residual-in_err-answer.result ≡ Err Memory = fault ∙ ap Err wants.1 in
    rw is (wants.0, refl)

pub returns-then-is_overlong : goal.returns-then-is_overlong
returns-then-is_overlong g c = λ rows cols past base at.
    let asked = asks at c.args.piece.now c.feed.new.self c.frame.new.self c.in_ok-answer.answer c.in_ok-feed.ensures
    c.in_ok-answer.ensures.frames in
    (asked.long ∙ sym c.is_overlong.ensures ∙ c.if-is_overlong.true, refl)

pub returns-in_err-pump : goal.returns-in_err-pump
returns-in_err-pump g c = λ rows cols past base at.
    let asked = asks at c.args.piece.now c.feed.new.self c.frame.new.self c.in_ok-answer.answer c.in_ok-feed.ensures
    c.in_ok-answer.ensures.frames in
    let e = c.in_err-pump.field-0.0 in
    let made = c.from_residual-in_err-pump in
    let p = err_from_is_err_and made.result made.ensures.1 in
    let is : c.from_residual-in_err-pump.result ≡ Err (fault_of e) = p.1 ∙ ap Err p.2 in
    rw is (turn-breaks g.row.W.Denot g.W.ByteSink.takes c.pump.new.self c.args.output.now c.pump.new.to e asked
    (sym c.is_overlong.ensures ∙ c.if-is_overlong.false) c.in_err-pump.ensures)

pub returns : goal.returns
returns g c = λ rows cols past base at.
    let asked = asks at c.args.piece.now c.feed.new.self c.frame.new.self c.in_ok-answer.answer c.in_ok-feed.ensures
    c.in_ok-answer.ensures.frames in
    turn-ends g.row.W.Denot g.W.ByteSink.takes c.pump.new.self c.args.output.now c.pump.new.to asked
    (sym c.is_overlong.ensures ∙ c.if-is_overlong.false) c.in_ok-pump.ensures
