use Rattle.std.proofs.Common.{◌≡◌, ◌≤◌, ◌++◌, replicate}
use Rattle.std.specs.Prelude.{string_bytes, string_capacity}
use Rattle.vt100_core.proofs.grid.contents.push_newlines.Given as goal

abbrev pub invariant-loop : goal.invariant-loop
invariant-loop l = record {
  text : string_bytes l.contents ≡ string_bytes l.initial.contents ++ replicate l.counter 10;
  capacity : string_capacity l.initial.contents ≤ string_capacity l.contents;
}
