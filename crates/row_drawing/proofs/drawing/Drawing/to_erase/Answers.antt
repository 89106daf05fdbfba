use Rattle.std.proofs.Common.{ap, arith, sym, ◌∙◌}
use Rattle.vt100_cells.specs.Cell.{CellView}
use Rattle.row_drawing.proofs.Columns.{erase-turn, erase-goto}
use Rattle.row_drawing.proofs.RowWrites.{colored_as, turned_col, wrote_turn}
use Rattle.row_drawing.proofs.WritesLemmas.{wrote_both, wrote_by}
use Rattle.row_drawing.proofs.drawing.Drawing.to_erase.Goals as goal

pub space-requires-clause-fits : goal.space-requires-clause-fits
space-requires-clause-fits c = let first = turned_col _ _ _ c.turn.ensures in omega (arith, first)

pub returns-then-is_wrapping-clause-written : goal.returns-then-is_wrapping-clause-written
returns-then-is_wrapping-clause-written c =
    let own = ap (λ (x : CellView). x.attrs) c.empty-erased.ensures in
    wrote_by (erase-turn _ _ _ (sym c.is_wrapping.ensures ∙ c.if-is_wrapping.true)) (wrote_both (wrote_both
    (wrote_both (wrote_turn _ _ _ _ c.turn.ensures) c.space.ensures.written) c.back.ensures.written)
    (colored_as own c.color.ensures.written))

pub returns-clause-written : goal.returns-clause-written
returns-clause-written c =
    let own = ap (λ (x : CellView). x.attrs) c.empty-erased.ensures in
    wrote_by (erase-goto _ _ _ (sym c.is_wrapping.ensures ∙ c.if-is_wrapping.false))
    (wrote_both c.goto.ensures.written (colored_as own c.color-2.ensures.written))
