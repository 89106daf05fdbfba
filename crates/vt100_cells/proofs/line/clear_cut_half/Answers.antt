use Rattle.std.proofs.Common.{arith, true, false, ◌≡◌, ◌-◌, ◌∙◌, length}
use Rattle.vt100_cells.specs.Cells.{cell_at}
use Rattle.vt100_cells.proofs.ShiftLemmas.{cuts-wide, cuts-narrow}
use Rattle.vt100_cells.proofs.line.clear_cut_half.Goals as goal

pub returns-then-is_wide : goal.returns-then-is_wide
returns-then-is_wide c =
    let cells = c.args.cells.now in
    let wide : (cell_at cells (length cells - 1)).wide ≡ true = cc in
    c.clear_at.ensures ∙ cuts-wide cells (omega arith) wide

pub returns-else-is_wide : goal.returns-else-is_wide
returns-else-is_wide c =
    let cells = c.args.cells.now in
    let narrow : (cell_at cells (length cells - 1)).wide ≡ false = cc in
    cuts-narrow cells (λ _. narrow)
