use Rattle.std.proofs.Common.{◌≡◌, ℕ, ◌+◌, ◌-◌, ◌<◌, ◌≤◌, ◌++◌, length, map, slice_range}
use Rattle.vt100_rows.specs.Row.{IsRow, blank_row, trimmed}
use Rattle.vt100_rows.specs.Sheet.{row_at, IsSheet, changed_between}
use Rattle.vt100_rows.proofs.kept_rows.keep_rows.Given as goal

abbrev pub invariant-loop-r : goal.invariant-loop-r
invariant-loop-r l = record {
  blank : (k : ℕ) → row_at l.rows k ≡ changed_between (λ v. blank_row l.width) l.initial.rows l.first l.r k;
  kept : l.kept.items ≡ l.initial.kept.items ++ map trimmed (slice_range l.initial.rows l.first l.r);
  size : length l.rows ≡ length l.initial.rows;
  sheet : IsSheet (length l.initial.rows) l.width l.rows;
  each_kept : (k : ℕ) → k < length l.kept.items → IsRow (row_at l.kept.items k);
  count : length l.kept.items ≤ length l.initial.kept.items + (l.r - l.first);
}
