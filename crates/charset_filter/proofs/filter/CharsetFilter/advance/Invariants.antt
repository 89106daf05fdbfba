use Rattle.std.proofs.Common.{length, ◌-◌, ◌≡◌, ◌≤◌, ◌+◌}
use Rattle.std.specs.Vec.{vec_len, vec_capacity}
use Rattle.charset_filter.specs.Filter.{Gives}
use Rattle.charset_filter.proofs.filter.CharsetFilter.advance.Given as goal

abbrev pub invariant-loop-read : goal.invariant-loop-read
invariant-loop-read l = record {
  gives : Gives l.initial.self l.bytes l.read l.self l.initial.output.items l.output.items;
  len : vec_len l.output + length l.initial.output.items ≡ vec_len l.initial.output + length l.output.items;
  capacity : vec_capacity l.initial.output ≤ vec_capacity l.output;
}

abbrev pub decreases-loop-read : goal.decreases-loop-read
decreases-loop-read l = length l.bytes - l.read
