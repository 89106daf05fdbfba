use Rattle.std.proofs.Common.{arith}
use Rattle.std.proofs.lemmas.Grind.{common_steps}
use Rattle.vt100_core.proofs.GridLemmas.{IsGrid-at}
use Rattle.vt100_core.proofs.TextLemmas.{IsGrid-join}
use Rattle.vt100_core.proofs.CursorRow.{cursor_row-wide}
use Rattle.vt100_core.proofs.grid.Grid.join_in_row.Goals as goal

pub invariant_of-self : goal.invariant_of-self
invariant_of-self c =
    let s = c.args.self.now in
    IsGrid-at
    (IsGrid-join s c.args.c c.args.attrs (rw (← c.self.view_is) c.self.invariant) c.requires.allocated c.ranges.c.0
    c.requires.zero_width c.requires.after_some)
    (grind (arith, common_steps))

pub join-requires-clause-in_row : goal.join-requires-clause-in_row
join-requires-clause-in_row c =
    let wide = cursor_row-wide c.self.view_is c.self.invariant c.requires.allocated c.from.ensures
    c.index_mut.ensures.value in
    omega (arith, wide, c.self.invariant.cursor_col)
