use Rattle.std.proofs.Common.{◌≡◌, ◌++◌, ◌-◌, length, vec_len, vec_capacity}
use Rattle.std.specs.List.{range_with_len}
use Rattle.vt100_rows.proofs.sheet.back.push_numbers.Given as goal

abbrev pub invariant-loop-k : goal.invariant-loop-k
invariant-loop-k l = record {
  order : l.order.items ≡ l.initial.order.items
      ++ range_with_len (length l.initial.order.items) (l.k - length l.initial.order.items);
  len : vec_len l.order ≡ l.k;
  capacity : vec_capacity l.order ≡ vec_capacity l.initial.order;
}
