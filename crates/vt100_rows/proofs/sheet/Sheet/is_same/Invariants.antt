use Rattle.std.proofs.Common.{◌≡◌, ℕ, ◌<◌}
use Rattle.vt100_rows.specs.Sheet.{row_at}
use Rattle.vt100_rows.proofs.sheet.Sheet.is_same.Given as goal

abbrev pub invariant-loop-r : goal.invariant-loop-r
invariant-loop-r l = (k : ℕ) → k < l.r → row_at l.self k ≡ row_at l.other k
