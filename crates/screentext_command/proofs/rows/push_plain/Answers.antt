use Rattle.screentext_command.proofs.RowLemmas.{plain_more}
use Rattle.screentext_command.proofs.rows.push_plain.Goals as goal

pub loop-cell-preserved : goal.loop-cell-preserved
loop-cell-preserved c =
    plain_more _ _ _ c.args.cells.now c.loop-cell.cell-index c.cell-item.result c.loop-cell-test.true c.cell-item.is
    c.loop-cell.invariant c.in_ok-push_cell.ensures
