use Rattle.std.proofs.Common.{◌≤◌}
use Rattle.vte_types.specs.Call.{Calls}
use Rattle.vte.specs.Osc.{dynamic_calls}
use Rattle.vte.proofs.osc.set_dynamic_colors.Given as goal

-- the calls so far, and the remaining ones, are all calls
abbrev pub invariant-loop-color : goal.invariant-loop-color
invariant-loop-color g l = record {
  from : 10 ≤ l.number;
  calls : (end : _) → Calls g.H.Handler.step l.handler (dynamic_calls l.number l.pieces l.terminator) end
      → Calls g.H.Handler.step l.initial.handler (dynamic_calls l.initial.number l.initial.pieces l.terminator) end;
}
