use Rattle.std.proofs.Common.{◌≡◌, ◌+◌, drop}
use Rattle.std.specs.Bool.{IsTrue}
use Rattle.vte_core.specs.Runs.{printed_len}
use Rattle.vte_core.proofs.text.begins_printed.Given as goal

abbrev pub invariant-loop-i : goal.invariant-loop-i
invariant-loop-i l = IsTrue l.are_printed → l.i + printed_len (drop l.i l.bytes) ≡ printed_len l.bytes
