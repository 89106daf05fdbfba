use Rattle.std.proofs.Common.{arith}
use Rattle.std.proofs.lemmas.Grind.{common_steps}
use Rattle.vt100_core.proofs.GridLemmas.{allocated-again, IsGrid-at}
use Rattle.vt100_core.proofs.EraseLemmas.{IsGrid-all_erased}
use Rattle.vt100_core.proofs.grid.Grid.erase_all.Goals as goal

pub invariant_of-self : goal.invariant_of-self
invariant_of-self c =
    IsGrid-at
    (IsGrid-all_erased c.args.self.now c.args.attrs (rw (← c.self.view_is) c.self.invariant) c.requires)
    (grind (arith, common_steps))

pub returns-clause-allocated : goal.returns-clause-allocated
returns-clause-allocated c = allocated-again _ c.self.view_is c.requires c.clear_all.ensures
