use Rattle.std.proofs.Common.{◌≡◌, ℕ, ◌-◌, ◌<◌, length}
use Rattle.vt100_cells.specs.Cell.{default_cell}
use Rattle.vt100_rows.specs.Row.{IsRow, resized_row}
use Rattle.vt100_rows.specs.Sheet.{row_at, changed_between}
use Rattle.vt100_rows.proofs.kept_rows.resize_newest.Given as goal

abbrev pub invariant-loop-j : goal.invariant-loop-j
invariant-loop-j l = record {
  changed : (k : ℕ) → row_at l.rows.items k ≡ changed_between (λ v. resized_row v l.width default_cell)
      l.initial.rows.items (length l.initial.rows.items - l.n) l.j k;
  each : (k : ℕ) → k < length l.rows.items → IsRow (row_at l.rows.items k);
  count : length l.rows.items ≡ length l.initial.rows.items;
}
