use Rattle.std.proofs.Common.{◌≡◌, ℕ, ◌<◌, length}
use Rattle.vt100_rows.specs.SheetFields.{number_at, IsOrder, in_order}
use Rattle.vt100_rows.proofs.sheet.resize.settle.Given as goal

abbrev pub invariant-loop-r : goal.invariant-loop-r
invariant-loop-r l = record {
  order : IsOrder (length l.initial.rows) l.order;
  same : in_order l.rows l.order ≡ in_order l.initial.rows l.initial.order;
  settled : (k : ℕ) → k < l.r → number_at l.order k ≡ k;
}
