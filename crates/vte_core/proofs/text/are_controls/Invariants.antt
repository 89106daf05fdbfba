use Rattle.std.proofs.Common.{◌≡◌, true, take}
use Rattle.std.specs.Bool.{IsTrue}
use Rattle.vte_core.specs.Bytes.{each, is_c0}
use Rattle.vte_core.proofs.text.are_controls.Given as goal

abbrev pub invariant-loop-byte : goal.invariant-loop-byte
invariant-loop-byte l = IsTrue l.are_controls → each is_c0 (take l.byte-index l.bytes) ≡ true
