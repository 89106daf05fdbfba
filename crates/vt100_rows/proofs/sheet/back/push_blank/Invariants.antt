use Rattle.std.proofs.Common.{◌≡◌, ◌+◌, ◌++◌, replicate, vec_len, vec_capacity}
use Rattle.vt100_rows.specs.Row.{blank_row}
use Rattle.vt100_rows.proofs.sheet.back.push_blank.Given as goal

abbrev pub invariant-loop-i : goal.invariant-loop-i
invariant-loop-i l = record {
  rows : l.rows.items ≡ l.initial.rows.items ++ replicate l._i (blank_row l.width);
  len : vec_len l.rows ≡ vec_len l.initial.rows + l._i;
  capacity : vec_capacity l.rows ≡ vec_capacity l.initial.rows;
}
