use Rattle.std.proofs.Common.{map}
use Rattle.vte_types.specs.Call.{Calls, terminal_attribute}
use Rattle.vte.specs.Sgr.{attributes, nothing}
use Rattle.vte.proofs.sgr.set_groups.Given as goal

-- the calls so far, and the remaining ones, are all calls
abbrev pub invariant-loop-group : goal.invariant-loop-group
invariant-loop-group g l =
    (end : _) → Calls g.H.Handler.step l.handler (map terminal_attribute (attributes nothing l.groups)) end
    → Calls g.H.Handler.step l.fn.handler (map terminal_attribute (attributes nothing l.fn.params)) end
