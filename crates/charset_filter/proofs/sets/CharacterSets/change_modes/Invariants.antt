use Rattle.std.proofs.Common.{◌≡◌, length}
use Rattle.charset_filter.specs.Sets.{after_modes}
use Rattle.charset_filter.proofs.sets.CharacterSets.change_modes.Given as goal

-- what all groups make of the start, those that are left make of the state now
abbrev pub invariant-loop-group : goal.invariant-loop-group
invariant-loop-group l = after_modes l.set l.self l.groups ≡ after_modes l.set l.fn.self l.fn.params

abbrev pub decreases-loop-group : goal.decreases-loop-group
decreases-loop-group l = length l.groups
