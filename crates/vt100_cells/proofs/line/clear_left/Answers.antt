use Rattle.std.proofs.Common.{arith, true, false, ◌≡◌, ◌-◌, ◌∙◌}
use Rattle.vt100_cells.specs.Cells.{cell_at}
use Rattle.vt100_cells.proofs.EditLemmas.{clears-left, clears-no_left}
use Rattle.vt100_cells.proofs.line.clear_left.Goals as goal

pub returns-then-i-eq0 : goal.returns-then-i-eq0
returns-then-i-eq0 c = clears-no_left c.args.cells.now c.args.i (λ h. absurd (omega arith))

pub returns-then-is_wide : goal.returns-then-is_wide
returns-then-is_wide c =
    let wide : (cell_at c.args.cells.now (c.args.i - 1)).wide ≡ true = cc in
    c.clear_at.ensures ∙ clears-left c.args.cells.now c.args.i (omega arith) c.requires wide

pub returns-else-is_wide : goal.returns-else-is_wide
returns-else-is_wide c =
    let narrow : (cell_at c.args.cells.now (c.args.i - 1)).wide ≡ false = cc in
    clears-no_left c.args.cells.now c.args.i (λ _. narrow)
