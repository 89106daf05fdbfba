use Rattle.std.proofs.Common.{◌≡◌, ◌≤◌, length, take}
use Rattle.vt100_cells.specs.Cells.{trimmed_len}
use Rattle.vt100_cells.proofs.line.trimmed_len.Given as goal

abbrev pub invariant-loop-n : goal.invariant-loop-n
invariant-loop-n l = record {
  within : l.n ≤ length l.cells;
  same : trimmed_len l.cells
      ≡ trimmed_len (take l.n l.cells);
}

abbrev pub decreases-loop-n : goal.decreases-loop-n
decreases-loop-n l = l.n
