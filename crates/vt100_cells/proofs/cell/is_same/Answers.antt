use Rattle.std.proofs.Common.{◌∙◌, sym}
use Rattle.vt100_cells.proofs.CellStarts.{cell_eq-other_start}
use Rattle.vt100_cells.proofs.cell.is_same.Goals as goal

pub returns-else-has_start_of : goal.returns-else-has_start_of
returns-else-has_start_of c =
    let x = c.args.cell.now in
    let y = c.args.other.now in
    c.if-has_start_of.false ∙ sym (cell_eq-other_start x y (sym c.has_start_of.ensures.value ∙ c.if-has_start_of.false))
