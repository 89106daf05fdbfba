use Rattle.std.proofs.Common.{arith}
use Rattle.std.proofs.lemmas.Grind.{common_steps}
use Rattle.vt100_core.proofs.GridLemmas.{IsGrid-at}
use Rattle.vt100_core.proofs.ScrollLemmas.{IsGrid-scrollback_erased}
use Rattle.vt100_core.proofs.grid.Grid.erase_all_scrollback.Goals as goal

pub invariant_of-self : goal.invariant_of-self
invariant_of-self g c =
    IsGrid-at (IsGrid-scrollback_erased c.args.self.now (rw (← c.self.view_is) c.self.invariant) c.requires)
    (grind (arith, common_steps))
