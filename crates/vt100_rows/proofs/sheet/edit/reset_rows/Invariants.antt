use Rattle.std.proofs.Common.{◌≡◌, ℕ, length}
use Rattle.vt100_rows.specs.Row.{blank_row}
use Rattle.vt100_rows.specs.Sheet.{row_at, changed_between}
use Rattle.vt100_rows.proofs.sheet.edit.reset_rows.Given as goal

abbrev pub invariant-loop-k : goal.invariant-loop-k
invariant-loop-k l = (j : ℕ) → row_at l.rows j ≡ changed_between (λ v. blank_row (length v.cells)) l.initial.rows 0 l.k
    j
