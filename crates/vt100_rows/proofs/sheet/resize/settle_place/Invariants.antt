use Rattle.std.proofs.Common.{◌≡◌, ℕ, ◌<◌, length}
use Rattle.vt100_rows.specs.SheetFields.{number_at, IsOrder, in_order}
use Rattle.vt100_rows.proofs.SettleLemmas.{unsettled}
use Rattle.vt100_rows.proofs.sheet.resize.settle_place.Given as goal

abbrev pub invariant-cycle : goal.invariant-cycle
invariant-cycle l = record {
  order : IsOrder (length l.initial.rows) l.order;
  same : in_order l.rows l.order ≡ in_order l.initial.rows l.initial.order;
  others : (r : ℕ) → r < length l.initial.order → number_at l.initial.order r ≡ r → number_at l.order r ≡ r;
}

abbrev pub decreases-cycle : goal.decreases-cycle
decreases-cycle l = unsettled l.order (length l.order)
