use Rattle.std.proofs.Common.{◌≡◌, ◌+◌, ◌-◌, ◌≤◌, drop, length}
use Rattle.vte_core.specs.Runs.{printed_len}
use Rattle.vte_core.proofs.text.block_len.Given as goal

abbrev pub invariant-loop-len : goal.invariant-loop-len
invariant-loop-len l = record {
  within : l.len ≤ length l.bytes;
  printed : l.len + printed_len (drop l.len l.bytes) ≡ printed_len l.bytes;
}

abbrev pub decreases-loop-len : goal.decreases-loop-len
decreases-loop-len l = length l.bytes - l.len
