use Rattle.std.proofs.Common.{map, take}
use Rattle.vte_core.specs.Event.{Execute, Performs}
use Rattle.vte_core.proofs.perform.Perform.execute_all.Given as goal

abbrev pub invariant-loop-byte : goal.invariant-loop-byte
invariant-loop-byte g l = Performs g.Self.Perform.step l.initial.self (map Execute (take l.byte-index l.controls)) l.self
