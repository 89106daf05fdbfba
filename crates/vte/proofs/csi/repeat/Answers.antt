use Rattle.std.proofs.Common.{◌≡◌, ◌-◌, ◌+◌, suc, arith}
use Rattle.vte.proofs.csi.repeat.Goals as goal

pub loop-i-preserved : goal.loop-i-preserved
loop-i-preserved g c end goes =
    let left : c.args.count - c.loop-i._i ≡ suc (c.args.count - (c.loop-i._i + 1)) = omega arith in
    (rw left at c.loop-i.invariant) end (c.input.new.self, c.input.ensures, goes)
