use Rattle.std.proofs.Common.{take}
use Rattle.std.specs.Prelude.{All}
use Rattle.std.specs.Bool.{IsTrue}
use Rattle.printable.specs.Printable.{IsPrintable}
use Rattle.printable.proofs.are_printable.Given as goal

abbrev pub invariant-loop-byte : goal.invariant-loop-byte
invariant-loop-byte l = IsTrue l.are_printable → All IsPrintable (take l.byte-index l.bytes)
