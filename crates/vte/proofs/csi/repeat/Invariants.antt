use Rattle.std.proofs.Common.{◌-◌, replicate}
use Rattle.vte_types.specs.Call.{Calls, input}
use Rattle.vte.proofs.csi.repeat.Given as goal

-- the calls so far, and the remaining ones, are all calls
abbrev pub invariant-loop-i : goal.invariant-loop-i
invariant-loop-i g l =
    (end : _) → Calls g.H.Handler.step l.handler (replicate (l.count - l._i) (input l.c)) end
    → Calls g.H.Handler.step l.initial.handler (replicate l.count (input l.c)) end
