use Rattle.std.proofs.Common.{◌≡◌, ◌-◌, ◌≤◌, true, length, take}
use Rattle.vte_core.specs.Bytes.{each, is_numeric}
use Rattle.vte_core.specs.Store.{rising}
use Rattle.vte_core.proofs.LoneNumbers.{LoneSoFar}
use Rattle.vte_core.proofs.params.Params.read_lone_numbers.Given as goal

-- the bytes so far are whole numbers, and nothing is shown of them yet
abbrev pub invariant-loop-read : goal.invariant-loop-read
invariant-loop-read l = record {
  within : l.read ≤ length l.bytes;
  numeric : each is_numeric (take l.read l.bytes) ≡ true;
  so_far : LoneSoFar (take l.read l.bytes) l.count 0 l.self-inside.numbers l.self-inside.ends;
  each_read : l.count ≤ l.read;
  kept : l.self-inside.len ≤ 32;
  none : l.self-inside.subparameters ≡ 0;
  lone : l.self-inside.ends ≡ rising 1 32;
}

abbrev pub decreases-loop-read : goal.decreases-loop-read
decreases-loop-read l = 32 - l.read
