use Rattle.std.proofs.Common.{arith, true, false, ◌≡◌, ◌∙◌, ◌-◌, ◌≤◌}
use Rattle.vt100_cells.specs.Cells.{cell_at}
use Rattle.vt100_cells.proofs.ListLemmas.{not_first}
use Rattle.vt100_cells.proofs.EditLemmas.{clears-wide, clears-continuation, clears-neither}
use Rattle.vt100_cells.proofs.line.clear_pair.Goals as goal
use Rattle.vt100_cells.proofs.line.clear_pair.Goals.{then-is_wide, else-is_wide+then-is_wide_continuation}
use Rattle.vt100_cells.proofs.line.clear_pair.Goals.{else-is_wide+else-is_wide_continuation}

pub returns-clause-cells : goal.returns-clause-cells
returns-clause-cells c =
    let xs = c.args.cells.now in
    let i = c.args.i in
    elim c.if-is_wide.branch [
      | then-is_wide w ↦
          let wide : (cell_at xs i).wide ≡ true = cc in
          w.cells-is ∙ clears-wide xs w.clear_at.new.cells w.clear_at-then-is_wide.new.cells i c.requires.paired wide
          w.clear_at.ensures w.clear_at-then-is_wide.ensures
      | else-is_wide+then-is_wide_continuation w ↦
          let half : (cell_at xs i).continuation ≡ true = cc in
          let later : 1 ≤ i = not_first (cell_at xs) i c.requires.paired half in
          w.cells-is ∙ clears-continuation xs w.clear_at-then-is_wide_continuation.new.cells
          w.clear_at-then-is_wide_continuation-2.new.cells i (i - 1) c.requires.paired (omega arith)
          c.requires.in_row half
          w.clear_at-then-is_wide_continuation.ensures w.clear_at-then-is_wide_continuation-2.ensures
      | else-is_wide+else-is_wide_continuation w ↦
          let narrow : (cell_at xs i).wide ≡ false = cc in
          let alone : (cell_at xs i).continuation ≡ false = cc in
          w.cells-is ∙ clears-neither xs i narrow alone
    ]
