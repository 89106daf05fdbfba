use Rattle.std.proofs.Common.{arith}
use Rattle.std.proofs.lemmas.Grind.{common_steps}
use Rattle.vt100_core.proofs.GridLemmas.{IsGrid-at}
use Rattle.vt100_core.proofs.ResizeLemmas.{IsGrid-shortened}
use Rattle.vt100_core.proofs.grid.Grid.shorten.Goals as goal

pub invariant_of-self : goal.invariant_of-self
invariant_of-self c =
    let s = c.args.self.now in
    IsGrid-at (IsGrid-shortened s c.args.up c.args.rows.value (rw (← c.self.view_is) c.self.invariant)
    (omega (arith, c.get.ensures.nonzero, c.get.ensures.value)) c.requires.lower c.requires.above c.requires.whole
    c.requires.hidden)
    (grind (arith, common_steps))
