use Rattle.std.proofs.Common.{map, length}
use Rattle.std.specs.Str.{chars}
use Rattle.vte_core.specs.Event.{Print, Performs}
use Rattle.vt100.specs.Goes.{Steps}
use Rattle.vt100.proofs.perform.WrappedScreenPerform.print_str.Given as goal
use denote.Text.{Utf8}
use denote.Shadow.{shadow}

-- what all characters make of the start, those that are left make of the state now
abbrev pub invariant-loop-rest : goal.invariant-loop-rest
invariant-loop-rest g l =
    shadow (Utf8 l.rest) × ((q : _) → Performs (Steps g.CB.Callbacks.step g.CB.Callbacks.scrolls) l.self
    (map Print (chars l.rest)) q → Performs (Steps g.CB.Callbacks.step g.CB.Callbacks.scrolls) l.initial.self
    (map Print (chars l.text)) q)

abbrev pub decreases-loop-rest : goal.decreases-loop-rest
decreases-loop-rest g l = length l.rest
