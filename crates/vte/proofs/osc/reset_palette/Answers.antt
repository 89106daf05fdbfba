use Rattle.std.proofs.Common.{◌≡◌, ◌-◌, ◌+◌, suc, arith}
use Rattle.vte.proofs.osc.reset_palette.Goals as goal

pub loop-index-preserved : goal.loop-index-preserved
loop-index-preserved g c end goes =
    let left : 256 - c.loop-index.index ≡ suc (256 - (c.loop-index.index + 1)) = omega arith in
    (rw left at c.loop-index.invariant) end (c.reset_color.new.self, c.reset_color.ensures, goes)
