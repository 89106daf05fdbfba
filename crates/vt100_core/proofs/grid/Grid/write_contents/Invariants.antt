use Rattle.std.proofs.Common.{◌≡◌, ◌≤◌, ◌*◌, ◌++◌, ℕ, List, length, replicate}
use Rattle.std.specs.Prelude.{string_bytes, string_capacity}
use Rattle.vt100_core.proofs.ContentsLemmas.{IsShown}
use Rattle.vt100_core.proofs.grid.Grid.write_contents.Given as goal

abbrev pub invariant-loop-row : goal.invariant-loop-row
invariant-loop-row l = record {
  shown : IsShown l.self (length l.yielded) l.row-iterator l.wrapping (string_bytes l.initial.contents)
      (string_bytes l.contents ++ replicate l.newlines 10);
  grown : (done : List ℕ) × (string_bytes l.contents ≡ string_bytes l.initial.contents ++ done);
  few : l.newlines ≤ 2 * length l.yielded;
  capacity : string_capacity l.initial.contents ≤ string_capacity l.contents;
}
