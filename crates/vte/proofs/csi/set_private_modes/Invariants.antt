use Rattle.std.proofs.Common.{◌≡◌, ◌||◌, length, map}
use Rattle.std.specs.List.{list_any}
use Rattle.vte_types.specs.Call.{Calls, set_private_mode}
use Rattle.vte_types.specs.Mode.{private_mode_of}
use Rattle.vte.specs.Sgr.{first}
use Rattle.vte.specs.Csi.{opens_group}
use Rattle.vte.specs.Timeout.{Ticked, sets_of}
use Rattle.vte.proofs.csi.set_private_modes.Given as goal

-- the calls and settings so far, and the remaining ones, are all of them
abbrev pub invariant-loop-number : goal.invariant-loop-number
invariant-loop-number g l = record {
  calls : (end : _) → Calls g.H.Handler.step l.handler
      (map (λ x. set_private_mode (private_mode_of (first x))) l.groups) end
      → Calls g.H.Handler.step l.initial.handler (map (λ x. set_private_mode (private_mode_of (first x)))
      l.initial.groups) end;
  timeout : (end : _) → Ticked g.T.Timeout.ticking l.timeout (sets_of l.groups) end
      → Ticked g.T.Timeout.ticking l.initial.timeout (sets_of l.initial.groups) end;
  opened : (l.opened || list_any opens_group l.groups) ≡ list_any opens_group l.initial.groups;
}

abbrev pub decreases-loop-number : goal.decreases-loop-number
decreases-loop-number g l = length l.groups
