use Rattle.std.proofs.Common.{◌∙◌, ap, Err}
use Rattle.std.proofs.lemmas.Result.{err_from_is_err_and}
use Rattle.termrelay.proofs.RunLemmas.{made-none, made-more, made-all, made-some}
use Rattle.termrelay.proofs.runs.log.run.Goals as goal

pub loop-call-init : goal.loop-call-init
loop-call-init c = made-none c.args.hub.now c.args.log.now

pub loop-call-preserved : goal.loop-call-preserved
loop-call-preserved c =
    made-more c.args.hub.now c.loop-call.hub c.serve.new.hub c.args.log.now
    c.loop-call.log c.serve.new.self c.args.calls.now c.loop-call.call-index c.call-item.result c.loop-call-test.true
    c.call-item.is c.loop-call.invariant c.in_ok-serve.ensures.served

pub returns-in_err-serve : goal.returns-in_err-serve
returns-in_err-serve c =
    let p = err_from_is_err_and c.from_residual.result c.from_residual.ensures.1 in
    made-some c.args.hub.now c.loop-call.hub c.serve.new.hub c.args.log.now
    c.loop-call.log c.serve.new.self c.args.calls.now c.loop-call.call-index c.from_residual.result
    c.loop-call-test.true c.loop-call.invariant c.in_err-serve.ensures.hub c.in_err-serve.ensures.same
    (p.1 ∙ ap (λ e. Err e) p.2)

pub returns : goal.returns
returns c =
    made-all c.args.hub.now c.loop-call.hub c.args.log.now c.loop-call.log c.args.calls.now
    c.loop-call.call-index c.loop-call-test.false c.loop-call.invariant
