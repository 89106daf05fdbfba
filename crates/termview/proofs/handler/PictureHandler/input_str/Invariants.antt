use Rattle.std.proofs.Common.{map, length}
use Rattle.std.specs.Str.{chars}
use Rattle.vte_types.specs.Call.{Calls, input}
use Rattle.termview.specs.Picture.{Does}
use Rattle.termview.proofs.handler.PictureHandler.input_str.Given as goal
use denote.Text.{Utf8}
use denote.Shadow.{shadow}

-- what all characters make of the start, those that are left make of the state now
abbrev pub invariant-loop-rest : goal.invariant-loop-rest
invariant-loop-rest l =
    shadow (Utf8 l.rest) × ((q : _) → Calls Does l.self (map input (chars l.rest)) q
    → Calls Does l.initial.self (map input (chars l.text)) q)

abbrev pub decreases-loop-rest : goal.decreases-loop-rest
decreases-loop-rest l = length l.rest
