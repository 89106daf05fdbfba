use Rattle.std.proofs.Common.{◌-◌, map}
use Rattle.std.specs.List.{range_with_len}
use Rattle.vte_types.specs.Call.{Calls, reset_color}
use Rattle.vte.proofs.osc.reset_palette.Given as goal

-- the calls so far, and the remaining ones, are all calls
abbrev pub invariant-loop-index : goal.invariant-loop-index
invariant-loop-index g l =
    (end : _) → Calls g.H.Handler.step l.handler (map reset_color (range_with_len l.index (256 - l.index))) end
    → Calls g.H.Handler.step l.initial.handler (map reset_color (range_with_len 0 256)) end
