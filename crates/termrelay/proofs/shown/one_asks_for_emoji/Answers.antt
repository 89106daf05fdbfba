use Rattle.std.proofs.Common.{◌≡◌, ◌∙◌, length, sym, ap, arith}
use Rattle.std.proofs.lemmas.List.{get_or_default}
use Rattle.vt100_cells.specs.Cell.{default_cell}
use Rattle.vt100_cells.specs.Cells.{cell_at}
use Rattle.termrelay.specs.Frame.{asks_for_emoji}
use Rattle.termrelay.proofs.BelowLemmas.{any-next, any-found}
use Rattle.termrelay.proofs.shown.one_asks_for_emoji.Goals as goal
use Rattle.termrelay.proofs.shown.one_asks_for_emoji.Goals.{After-asks_for_emoji}

-- what was asked of a cell
asked : (c : After-asks_for_emoji)
    → asks_for_emoji (cell_at c.args.cells.now c.loop-cell.cell-index) ≡ c.asks_for_emoji.result
asked c =
    let is = get_or_default c.args.cells.now c.loop-cell.cell-index default_cell c.cell-item.result (omega arith) in
    ap asks_for_emoji (is ∙ sym c.cell-item.is) ∙ sym c.asks_for_emoji.ensures

pub returns-then-asks_for_emoji : goal.returns-then-asks_for_emoji
returns-then-asks_for_emoji c =
    let asks = asked (goal.at.returns-then-asks_for_emoji c).After-asks_for_emoji ∙ c.if-asks_for_emoji.true in
    sym (any-found (length c.args.cells.now) c.loop-cell.cell-index _ (omega arith) asks)

pub loop-cell-preserved : goal.loop-cell-preserved
loop-cell-preserved c =
    any-next c.loop-cell.cell-index _ c.loop-cell.invariant
    (asked (goal.at.loop-cell-preserved c).After-asks_for_emoji ∙ c.if-asks_for_emoji.false)

pub returns : goal.returns
returns c =
    let all : c.loop-cell.cell-index ≡ length c.args.cells.now = omega arith in rw (← all) (sym c.loop-cell.invariant)
