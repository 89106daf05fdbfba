use Rattle.std.proofs.Common.{◌≡◌, ℕ, length}
use Rattle.vt100_rows.specs.Row.{truncated}
use Rattle.vt100_rows.specs.Sheet.{row_at, changed_between}
use Rattle.vt100_rows.proofs.sheet.Sheet.narrow.Given as goal

abbrev pub invariant-loop-r : goal.invariant-loop-r
invariant-loop-r l = record {
  count : length l.self ≡ length l.initial.self;
  changed : (k : ℕ) → row_at l.self k ≡ changed_between (λ v. truncated v l.width) l.initial.self 0 l.r k;
}
