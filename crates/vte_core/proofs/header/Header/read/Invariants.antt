use Rattle.std.proofs.Common.{◌≡◌, ◌-◌, ◌<◌, ◌≤◌, ℕ, List, true, false, ◌++◌, length, take, get_or}
use Rattle.vte_core.specs.Bytes.{each, is_header, is_numeric}
use Rattle.vte_core.specs.Phases.{ReadsHeader}
use Rattle.vte_core.proofs.header.Header.read.Given as goal

abbrev pub invariant-loop-read : goal.invariant-loop-read
invariant-loop-read l = record {
  within : l.read ≤ length l.bytes;
  header : each is_header (take l.read l.bytes) ≡ true;
  ended : l.read < length l.bytes → is_numeric (get_or l.bytes l.read 0) ≡ false;
  reads : (h : List ℕ) → ReadsHeader l.fn.self h → ReadsHeader l.self (h ++ take l.read l.bytes);
}

abbrev pub decreases-loop-read : goal.decreases-loop-read
decreases-loop-read l = length l.bytes - l.read
