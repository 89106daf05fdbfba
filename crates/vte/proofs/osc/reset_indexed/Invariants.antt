use Rattle.std.specs.List.{flat_map}
use Rattle.vte_types.specs.Call.{Calls}
use Rattle.vte.specs.Osc.{index_resets}
use Rattle.vte.proofs.osc.reset_indexed.Given as goal

-- the calls so far, and the remaining ones, are all calls
abbrev pub invariant-loop-piece : goal.invariant-loop-piece
invariant-loop-piece g l =
    (end : _) → Calls g.H.Handler.step l.handler (flat_map index_resets l.pieces) end
    → Calls g.H.Handler.step l.initial.handler (flat_map index_resets l.initial.pieces) end
