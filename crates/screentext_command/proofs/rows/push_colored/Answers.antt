use Rattle.screentext_command.proofs.RowLemmas.{colored_end, colored_more}
use Rattle.screentext_command.proofs.rows.push_colored.Goals as goal

pub loop-cell-preserved : goal.loop-cell-preserved
loop-cell-preserved c =
    colored_more _ _ _ _ c.loop-cell.attrs c.attrs-next.result c.args.cells.now c.loop-cell.cell-index
    c.cell-item.result c.loop-cell-test.true c.cell-item.is c.attrs-next.ensures c.loop-cell.invariant
    c.in_ok-push_change.ensures c.in_ok-push_cell.ensures

pub returns : goal.returns
returns c =
    colored_end _ _ _ c.loop-cell.attrs _ c.args.cells.now c.loop-cell.cell-index c.loop-cell-test.false
    c.new.ensures c.loop-cell.invariant c.in_ok-push_change-2.ensures
