use Rattle.std.proofs.Common.{arith}
use Rattle.vt100_core.proofs.GridLemmas.{IsGrid-at}
use Rattle.vt100_core.proofs.EraseLemmas.{IsGrid-cells_deleted}
use Rattle.vt100_core.proofs.CursorRow.{cursor_row-wide, cursor_row-ranged}
use Rattle.vt100_rows.specs.Row.{removed}
use Rattle.vt100_core.proofs.grid.Grid.delete_cells.Goals as goal

pub invariant_of-self : goal.invariant_of-self
invariant_of-self c =
    IsGrid-at
    (IsGrid-cells_deleted c.args.self.now c.args.count (rw (← c.self.view_is) c.self.invariant) c.requires)
    (cursor_row-ranged c.args.count removed c.self.view_is c.self.invariant c.requires
    c.from.ensures c.index_mut.ensures.value (omega (arith, c.self.invariant.few_cols)) c.remove.ensures)

pub remove-requires : goal.remove-requires
remove-requires c =
    let wide = cursor_row-wide c.self.view_is c.self.invariant c.requires c.from.ensures c.index_mut.ensures.value in
    omega (arith, wide)

pub returns-clause-grid : goal.returns-clause-grid
returns-clause-grid c =
    cursor_row-ranged c.args.count removed c.self.view_is c.self.invariant c.requires
    c.from.ensures c.index_mut.ensures.value (omega (arith, c.self.invariant.few_cols)) c.remove.ensures
