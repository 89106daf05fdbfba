use Rattle.std.proofs.Common.{◌≡◌, take}
use Rattle.vte_core.proofs.text.Unfinished.keep.Given as goal

abbrev pub invariant-loop-byte : goal.invariant-loop-byte
invariant-loop-byte l = l.kept.items ≡ take l.byte-index l.bytes
