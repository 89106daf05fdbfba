use Rattle.std.proofs.Common.{◌≡◌, ◌∙◌, ◌-◌, ◌+◌, suc, sym, arith}
use Rattle.vt100.proofs.EventLemmas.{tells_failed, tells_more}
use Rattle.vt100.proofs.screen.wrapped.WrappedScreen.report_groups.Goals as goal

pub returns-then-failed : goal.returns-then-failed
returns-then-failed g c = c.loop-i.invariant _ _
    (tells_failed g.CB.Callbacks.step _ _ _ (sym c.failed.ensures ∙ c.if-failed.true))

pub loop-i-preserved : goal.loop-i-preserved
loop-i-preserved g c d w goes =
    let left : c.args.count - c.loop-i._i ≡ suc (c.args.count - (c.loop-i._i + 1)) = omega arith in
    (rw left at c.loop-i.invariant) d w
    (tells_more g.CB.Callbacks.step _ _ _ _ _ _ _ _ (sym c.failed.ensures ∙ c.if-failed.false) c.report_csi.ensures
    goes)
