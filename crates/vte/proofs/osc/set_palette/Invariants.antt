use Rattle.vte_types.specs.Call.{Calls}
use Rattle.vte.specs.Osc.{pairs_calls}
use Rattle.vte.proofs.osc.set_palette.Given as goal

-- the calls so far, and the remaining ones, are all calls
abbrev pub invariant-loop-index : goal.invariant-loop-index
invariant-loop-index g l =
    (end : _) → Calls g.H.Handler.step l.handler (pairs_calls l.pieces l.terminator) end
    → Calls g.H.Handler.step l.initial.handler (pairs_calls l.initial.pieces l.terminator) end
