use Rattle.std.proofs.Common.{◌≡◌, ◌+◌, ◌++◌, take, drop, vec_len, vec_capacity}
use Rattle.vt100_rows.proofs.kept_rows.take_newest.Given as goal

abbrev pub invariant-loop-i : goal.invariant-loop-i
invariant-loop-i l = record {
  kept : l.kept.items ≡ drop l._i l.initial.kept.items;
  rows : l.rows.items ≡ l.initial.rows.items ++ take l._i l.initial.kept.items;
  len : vec_len l.rows ≡ vec_len l.initial.rows + l._i;
  capacity : vec_capacity l.rows ≡ vec_capacity l.initial.rows;
}
