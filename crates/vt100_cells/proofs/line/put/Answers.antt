use Rattle.std.proofs.Common.{true, false, ◌≡◌, ◌+◌, ◌∙◌}
use Rattle.vt100_cells.specs.Cells.{cell_at}
use Rattle.vt100_cells.proofs.WidthLemmas.{space_is_drawn}
use Rattle.vt100_cells.proofs.EditLemmas.{puts-narrow_narrow, puts-narrow_wide, puts-wide_narrow, puts-wide_wide}
use Rattle.vt100_cells.proofs.line.put.Goals as goal

pub of_char-requires-clause-drawn : goal.of_char-requires-clause-drawn
of_char-requires-clause-drawn c = space_is_drawn

pub returns-else-was_wide : goal.returns-else-was_wide
returns-else-was_wide c =
    let narrow : c.args.cell.wide ≡ false = cc in
    let was : (cell_at c.args.cells.now c.args.i).wide ≡ false = cc in
    puts-narrow_narrow c.args.cells.now c.clear_left.new.cells c.args.i c.args.cell c.args.attrs c.clear_left.ensures
    narrow was

pub returns-then-was_wide : goal.returns-then-was_wide
returns-then-was_wide c =
    let narrow : c.args.cell.wide ≡ false = cc in
    let was : (cell_at c.args.cells.now c.args.i).wide ≡ true = cc in
    c.put_within-then-was_wide.ensures
    ∙ puts-narrow_wide c.args.cells.now c.clear_left.new.cells c.args.i c.args.cell c.args.attrs c.clear_left.ensures
    c.of_char.result c.of_char.ensures narrow was

pub returns-else-next_was_wide : goal.returns-else-next_was_wide
returns-else-next_was_wide c =
    let wide : c.args.cell.wide ≡ true = cc in
    let was : (cell_at c.args.cells.now (c.args.i + 1)).wide ≡ false = cc in
    puts-wide_narrow c.args.cells.now c.clear_left.new.cells c.args.i c.args.cell c.args.attrs c.clear_left.ensures
    c.continuation.result c.continuation.ensures wide was

pub returns-then-next_was_wide : goal.returns-then-next_was_wide
returns-then-next_was_wide c =
    let wide : c.args.cell.wide ≡ true = cc in
    let was : (cell_at c.args.cells.now (c.args.i + 1)).wide ≡ true = cc in
    c.put_within.ensures
    ∙ puts-wide_wide c.args.cells.now c.clear_left.new.cells c.args.i c.args.cell c.args.attrs c.clear_left.ensures
    c.continuation.result c.empty.result c.continuation.ensures c.empty.ensures wide was
