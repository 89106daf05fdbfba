use Rattle.std.proofs.Common.{arith, ap}
use Rattle.std.proofs.lemmas.Grind.{common_steps}
use Rattle.vt100_core.specs.Grid.{GridView}
use Rattle.vt100_core.proofs.GridLemmas.{IsGrid-at}
use Rattle.vt100_core.proofs.EraseLemmas.{IsGrid-columns_erased}
use Rattle.vt100_core.proofs.CursorRow.{cursor_row-wide}
use Rattle.vt100_core.proofs.grid.Grid.erase_columns.Goals as goal

pub invariant_of-self : goal.invariant_of-self
invariant_of-self c =
    IsGrid-at
    (IsGrid-columns_erased c.args.self.now c.args.range.start c.args.range.end c.args.attrs
    (rw (← c.self.view_is) c.self.invariant) c.requires.allocated c.requires.in_row)
    (grind (arith, common_steps))

pub erase_range-requires : goal.erase_range-requires
erase_range-requires c =
    let wide = cursor_row-wide c.self.view_is c.self.invariant c.requires.allocated c.from.ensures
    c.index_mut.ensures.value in
    omega (arith, wide, c.requires.in_row, ap (λ (x : GridView). x.width) c.self.view_is)
