use Rattle.std.proofs.Common.{◌≡◌, ◌-◌, ◌≤◌, ℕ, List, true, ◌++◌, length, take}
use Rattle.vte_core.specs.Bytes.{each, is_numeric}
use Rattle.vte_core.specs.Reading.{ReadsNumbers, ReadsUpTo}
use Rattle.vte_core.proofs.numbers.Numbers.read.Given as goal

abbrev pub invariant-loop-read : goal.invariant-loop-read
invariant-loop-read l = record {
  within : l.read ≤ length l.bytes;
  numeric : each is_numeric (take l.read l.bytes) ≡ true;
  reads : (m : List ℕ) → ReadsNumbers l.initial.self m → ReadsUpTo l.self l.number (m ++ take l.read l.bytes);
}

abbrev pub decreases-loop-read : goal.decreases-loop-read
decreases-loop-read l = length l.bytes - l.read
