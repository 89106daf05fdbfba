use Rattle.row_pictures.proofs.RowLemmas.{cell_drawn, cell_escaped}
use Rattle.row_pictures.proofs.row.push_cells.Goals as goal

pub loop-cell-preserved : goal.loop-cell-preserved
loop-cell-preserved c = record {
  adds = cell_drawn _ _ _ c.args.cells.now c.loop-cell.cell-index c.cell-item.result c.loop-cell-test.true
      c.cell-item.is c.loop-cell.invariant.adds c.in_ok-push_cell.ensures.adds;
  bytes = cell_escaped _ _ _ c.args.cells.now c.loop-cell.cell-index c.cell-item.result c.loop-cell-test.true
      c.cell-item.is c.loop-cell.invariant.bytes c.in_ok-push_cell.ensures.bytes;
}
