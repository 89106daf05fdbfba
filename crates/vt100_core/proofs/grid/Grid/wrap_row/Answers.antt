use Rattle.std.proofs.Common.{arith}
use Rattle.std.proofs.lemmas.Grind.{common_steps}
use Rattle.vt100_core.proofs.GridLemmas.{IsGrid-at}
use Rattle.vt100_core.proofs.ScrollLemmas.{IsGrid-wrap_row, above-last}
use Rattle.vt100_core.proofs.grid.Grid.wrap_row.Goals as goal

pub invariant_of-self : goal.invariant_of-self
invariant_of-self c =
    let s = c.args.self.now in
    IsGrid-at (IsGrid-wrap_row s c.args.row _ (rw (← c.self.view_is) c.self.invariant) c.requires
    (above-last s c.args.row c.args.wrap (rw (← c.self.view_is) c.self.invariant)))
    (grind (arith, common_steps))
