use Rattle.std.proofs.Common.{◌≡◌, ◌≤◌, ◌-◌, ◌++◌, ℕ, List, length, take}
use Rattle.relay_streams.specs.Updates.{HasSearched, last_end}
use Rattle.relay_streams.proofs.updates.UpdateEnds.last_end.Given as goal

-- the parser has read the first `read` bytes, and `end` is the last end in them
abbrev pub invariant-loop-read : goal.invariant-loop-read
invariant-loop-read l = record {
  within : l.read ≤ length l.bytes;
  least : l.end ≤ l.read;
  reads : (past : List ℕ) → HasSearched l.fn.self past → HasSearched l.self (past ++ take l.read l.bytes);
  last : (past : List ℕ) → HasSearched l.fn.self past → l.end ≡ last_end past (take l.read l.bytes);
}

abbrev pub decreases-loop-read : goal.decreases-loop-read
decreases-loop-read l = length l.bytes - l.read
