use Rattle.std.proofs.Common.{◌≡◌, ℕ, length}
use Rattle.vt100_cells.specs.Cell.{default_cell}
use Rattle.vt100_rows.specs.Row.{grown}
use Rattle.vt100_rows.specs.Sheet.{row_at, changed_between}
use Rattle.vt100_rows.proofs.sheet.Sheet.widen.Given as goal

abbrev pub invariant-loop-r : goal.invariant-loop-r
invariant-loop-r l = record {
  count : length l.self ≡ length l.initial.self;
  changed : (k : ℕ) → row_at l.self k ≡ changed_between (λ v. grown v l.to default_cell) l.initial.self 0 l.r k;
}
