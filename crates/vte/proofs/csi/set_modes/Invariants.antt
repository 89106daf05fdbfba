use Rattle.std.proofs.Common.{length, map}
use Rattle.vte_types.specs.Call.{Calls, set_mode}
use Rattle.vte_types.specs.Mode.{mode_of}
use Rattle.vte.specs.Sgr.{first}
use Rattle.vte.proofs.csi.set_modes.Given as goal

-- the calls so far, and the remaining ones, are all calls
abbrev pub invariant-loop-number : goal.invariant-loop-number
invariant-loop-number g l =
    (end : _) → Calls g.H.Handler.step l.handler (map (λ x. set_mode (mode_of (first x))) l.groups) end
    → Calls g.H.Handler.step l.fn.handler (map (λ x. set_mode (mode_of (first x))) l.fn.params) end

abbrev pub decreases-loop-number : goal.decreases-loop-number
decreases-loop-number g l = length l.groups
