use Rattle.std.proofs.Common.{◌≡◌, ℕ}
use Rattle.vt100_rows.specs.Row.{cleared_row}
use Rattle.vt100_rows.specs.Sheet.{row_at, changed_between}
use Rattle.vt100_rows.proofs.sheet.edit.clear_rows.Given as goal

abbrev pub invariant-loop-k : goal.invariant-loop-k
invariant-loop-k l = (j : ℕ) → row_at l.rows j ≡ changed_between (λ v. cleared_row v l.attrs) l.initial.rows 0 l.k j
