use Rattle.std.proofs.Common.{◌≤◌, ◌-◌}
use Rattle.vt100_cells.specs.Cells.{AreSame, cell_at}
use Rattle.vt100_cells.proofs.line.alike_to.Given as goal

-- the columns so far have this cell
abbrev pub invariant-loop-n : goal.invariant-loop-n
invariant-loop-n l = record {
  begun : l.from ≤ l.n;
  within : l.n ≤ l.to;
  same : AreSame (cell_at l.cells) (λ _. l.cell) l.from l.n;
}

abbrev pub decreases-loop-n : goal.decreases-loop-n
decreases-loop-n l = l.to - l.n

abbrev pub invariant-loop-n-2 : goal.invariant-loop-n-2
invariant-loop-n-2 l = record {
  begun : l.from ≤ l.n;
  within : l.n ≤ l.to;
  same : AreSame (cell_at l.cells) (λ _. l.cell) l.from l.n;
}

abbrev pub decreases-loop-n-2 : goal.decreases-loop-n-2
decreases-loop-n-2 l = l.to - l.n
