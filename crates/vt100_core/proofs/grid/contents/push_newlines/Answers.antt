use Rattle.std.proofs.Common.{arith, ◌∙◌}
use Rattle.vt100_rows.proofs.TextLemmas.{on-err}
use Rattle.vt100_core.proofs.NewlineLemmas.{begun-newlines}
use Rattle.vt100_core.proofs.grid.contents.push_newlines.Goals as goal

pub returns-in_err-push-clause-begun : goal.returns-in_err-push-clause-begun
returns-in_err-push-clause-begun c = on-err c.from_residual.result
    (begun-newlines c.args.n c.loop.counter _ _ (omega (arith, c.loop-test.true)) (c.in_err-push.ensures.bytes
    ∙ c.loop.invariant.text))
