use Rattle.std.proofs.Common.{◌≡◌, ◌++◌, drop, codes, decimal}
use Rattle.std.specs.List.{flat_map}
use Rattle.vte_core.specs.ParamsText.{group_text}
use Rattle.c_objects.specs.Queue.{drafted}
use Rattle.c_objects.proofs.told.push_group.Given as goal

-- the text so far, and the numbers that are left, make up the whole text
abbrev pub invariant-loop-number : goal.invariant-loop-number
invariant-loop-number l =
    drafted (l.draft ++ flat_map (λ y. codes ":" ++ decimal y) (drop l.number-index l.rest))
    ≡ drafted (l.fn.draft ++ group_text l.fn.group)
