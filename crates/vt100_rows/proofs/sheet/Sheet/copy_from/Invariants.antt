use Rattle.std.proofs.Common.{◌≡◌, ℕ, ◌<◌, ◌≤◌, length}
use Rattle.vt100_rows.specs.Sheet.{row_at}
use Rattle.vt100_rows.proofs.sheet.Sheet.copy_from.Given as goal

abbrev pub invariant-loop-r : goal.invariant-loop-r
invariant-loop-r l = record {
  count : length l.self ≡ length l.initial.self;
  copied : (k : ℕ) → k < l.r → row_at l.self k ≡ row_at l.other k;
  stay : (k : ℕ) → l.r ≤ k → row_at l.self k ≡ row_at l.initial.self k;
}
