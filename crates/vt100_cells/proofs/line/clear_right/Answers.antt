use Rattle.std.proofs.Common.{true, false, ◌≡◌, ◌∙◌}
use Rattle.vt100_cells.specs.Cells.{cell_at}
use Rattle.vt100_cells.proofs.EditLemmas.{clears-right, clears-no_right, continuation_within}
use Rattle.vt100_cells.proofs.line.clear_right.Goals as goal

pub clear_at-requires : goal.clear_at-requires
clear_at-requires c =
    let half : (cell_at c.args.cells.now c.args.e).continuation ≡ true = cc in
    continuation_within c.args.cells.now c.args.e half

pub returns-then-is_continuation_at : goal.returns-then-is_continuation_at
returns-then-is_continuation_at c =
    let half : (cell_at c.args.cells.now c.args.e).continuation ≡ true = cc in
    c.clear_at.ensures ∙ clears-right c.args.cells.now c.args.e (continuation_within c.args.cells.now c.args.e half)
    half

pub returns-else-is_continuation_at : goal.returns-else-is_continuation_at
returns-else-is_continuation_at c =
    let no_half : (cell_at c.args.cells.now c.args.e).continuation ≡ false = cc in
    clears-no_right c.args.cells.now c.args.e no_half
