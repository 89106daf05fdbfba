use Rattle.std.proofs.Common.{arith, refl}
use Rattle.std.proofs.lemmas.Grind.{common_steps}
use Rattle.vt100_core.proofs.GridLemmas.{allocated-again, IsGrid-at}
use Rattle.vt100_core.proofs.EraseLemmas.{IsGrid-all_erased_backward}
use Rattle.vt100_core.proofs.CursorRow.{cursor_row-among}
use Rattle.vt100_core.proofs.grid.Grid.erase_all_backward.Goals as goal

pub invariant_of-self : goal.invariant_of-self
invariant_of-self c =
    IsGrid-at
    (IsGrid-all_erased_backward c.args.self.now c.args.attrs (rw (← c.self.view_is) c.self.invariant) c.requires)
    (grind (arith, common_steps))

pub erase_backward-requires-clause-in_row : goal.erase_backward-requires-clause-in_row
erase_backward-requires-clause-in_row c =
    let wide = cursor_row-among c.self.view_is c.self.invariant c.requires refl c.from-row.ensures in
    omega (arith, wide, c.self.invariant.some_cols)

pub returns-clause-allocated : goal.returns-clause-allocated
returns-clause-allocated c = allocated-again _ c.self.view_is c.requires c.erase_backward.ensures
