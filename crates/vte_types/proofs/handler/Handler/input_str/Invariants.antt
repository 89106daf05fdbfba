use Rattle.std.proofs.Common.{map, take}
use Rattle.vte_types.specs.Call.{Calls, input}
use Rattle.vte_types.proofs.handler.Handler.input_str.Given as goal

abbrev pub invariant-loop-c : goal.invariant-loop-c
invariant-loop-c g l = Calls g.Self.Handler.step l.initial.self (map input l.yielded) l.self

abbrev pub invariant-loop-byte : goal.invariant-loop-byte
invariant-loop-byte g l = Calls g.Self.Handler.step l.initial.self (map input (take l.byte-index l.byte-items)) l.self
