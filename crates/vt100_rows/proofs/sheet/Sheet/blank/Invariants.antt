use Rattle.std.proofs.Common.{◌≡◌, replicate}
use Rattle.vt100_rows.specs.Row.{blank_row}
use Rattle.vt100_rows.proofs.sheet.Sheet.blank.Given as goal

abbrev pub invariant-loop-row : goal.invariant-loop-row
invariant-loop-row l = l.sheet ≡ replicate l._row (blank_row l.size.cols.value)
