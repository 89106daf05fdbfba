use Rattle.std.proofs.Common.{arith}
use Rattle.vt100_core.proofs.GridLemmas.{IsGrid-at}
use Rattle.vt100_core.proofs.EraseLemmas.{IsGrid-cells_inserted}
use Rattle.vt100_core.proofs.CursorRow.{cursor_row-wide, cursor_row-changed}
use Rattle.vt100_rows.specs.Row.{RowView, inserted}
use Rattle.vt100_core.proofs.grid.Grid.insert_cells.Goals as goal

pub invariant_of-self : goal.invariant_of-self
invariant_of-self c =
    IsGrid-at
    (IsGrid-cells_inserted c.args.self.now c.args.count (rw (← c.self.view_is) c.self.invariant) c.requires)
    (cursor_row-changed (λ (v : RowView) n. inserted v n c.args.count) c.self.view_is c.self.invariant c.requires
    c.from.ensures c.index_mut.ensures.value c.insert.ensures)

pub insert-requires : goal.insert-requires
insert-requires c =
    let wide = cursor_row-wide c.self.view_is c.self.invariant c.requires c.from.ensures c.index_mut.ensures.value in
    omega (arith, wide, c.self.invariant.cursor_col)

pub returns-clause-grid : goal.returns-clause-grid
returns-clause-grid c =
    cursor_row-changed (λ (v : RowView) n. inserted v n c.args.count) c.self.view_is c.self.invariant c.requires
    c.from.ensures c.index_mut.ensures.value c.insert.ensures
