use Rattle.std.proofs.lemmas.Result.{err_from_is_err_and}
use Rattle.std.proofs.Common.{◌≡◌, ◌∙◌, List, ℕ, Ok, Err, IsOk, false, true, inr, refl, subst, ap}
use Rattle.charset_filter.specs.declared.lines.LineDrawing.{LineDrawing}
use Rattle.charset_filter.specs.Lines.{HasPassed, passed}
use Rattle.relay_streams.specs.declared.error.RelayError.TheVariants.{Memory}
use Rattle.relay_streams.specs.Turns.{Turned}
use Rattle.relay_streams.proofs.LiveLemmas.{turned-fault, unpassed}
use Rattle.relay_streams.proofs.live.pass_on.Goals as goal

pub returns-in_err-pass : goal.returns-in_err-pass
returns-in_err-pass g c =
    let made = c.from_residual in
    let p = err_from_is_err_and made.result made.ensures.1 in
    let is : c.from_residual.result ≡ Err Memory = p.1 ∙ ap Err p.2 in
    rw is (record {
      sent = λ rows cols lines past fed base at passes. (
        unpassed rows cols lines fed (passed lines past c.args.piece.now) base (λ kept. absurd (let no : false ≡ true =
            subst IsOk c.in_err-pass.was (c.pass.ensures.kept past
            (subst (λ (l : LineDrawing). HasPassed c.args.filter.now l past) kept passes)) in cc)),
        refl,
      );
      passed = tt;
    })

pub returns-in_err-turn : goal.returns-in_err-turn
returns-in_err-turn g c =
    let fault = c.in_err-turn.field-0.0 in
    let made = c.from_residual-in_err-turn in
    let p = err_from_is_err_and made.result made.ensures.1 in
    let is : c.from_residual-in_err-turn.result ≡ Err fault = p.1 ∙ ap Err p.2 in
    rw is (record {
      sent = λ rows cols lines past fed base at passes.
          let given : c.given.result.now ≡ passed lines past c.args.piece.now =
          c.given.ensures ∙ (c.in_ok-pass.ensures.passed lines past passes).1 in
          turned-fault g.W.ByteSink.takes g.W.FlushSink.flushes lines rows cols fed _ base c.args.client _ _ fault _
          (subst (λ (xs : List ℕ). Turned g.W.ByteSink.takes rows cols fed xs base c.args.client
          c.args.output.now (Err fault) c.turn.new.output c.turn.new.hub) given
          (c.in_err-turn.ensures rows cols fed base at));
      passed = tt;
    })

pub returns-in-Ok : goal.returns-in-Ok
returns-in-Ok g c = record {
  sent = λ rows cols lines past fed base at passes.
      let given : c.given.result.now ≡ passed lines past c.args.piece.now =
      c.given.ensures ∙ (c.in_ok-pass.ensures.passed lines past passes).1 in
      let turned = subst (λ (xs : List ℕ). Turned g.W.ByteSink.takes rows cols fed xs base c.args.client
      c.args.output.now (Ok tt) c.turn.new.output c.turn.new.hub) given (c.in_ok-turn.ensures rows cols fed base at) in
      (c.turn.new.output, turned, c.in-Ok.ensures.flushes);
  passed = λ lines past passes. (c.in_ok-pass.ensures.passed lines past passes).0;
}

pub returns-in-Err : goal.returns-in-Err
returns-in-Err g c = record {
  sent = λ rows cols lines past fed base at passes.
      let given : c.given.result.now ≡ passed lines past c.args.piece.now =
      c.given.ensures ∙ (c.in_ok-pass.ensures.passed lines past passes).1 in
      let turned = subst (λ (xs : List ℕ). Turned g.W.ByteSink.takes rows cols fed xs base c.args.client
      c.args.output.now (Ok tt) c.turn.new.output c.turn.new.hub) given (c.in_ok-turn.ensures rows cols fed base at) in
      inr (c.turn.new.output, c.in-Err.field-0, turned, c.in-Err.ensures.flushes);
  passed = tt;
}
