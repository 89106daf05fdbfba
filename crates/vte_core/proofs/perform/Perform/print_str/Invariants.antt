use Rattle.std.proofs.Common.{map, take}
use Rattle.vte_core.specs.Event.{Print, Performs}
use Rattle.vte_core.proofs.perform.Perform.print_str.Given as goal

abbrev pub invariant-loop-c : goal.invariant-loop-c
invariant-loop-c g l = Performs g.Self.Perform.step l.initial.self (map Print l.yielded) l.self

abbrev pub invariant-loop-byte : goal.invariant-loop-byte
invariant-loop-byte g l = Performs g.Self.Perform.step l.initial.self (map Print (take l.byte-index l.byte-items))
    l.self
