use Rattle.std.proofs.Common.{◌≡◌, ◌++◌, drop, map, codes}
use Rattle.std.specs.List.{flat_map}
use Rattle.vte_core.specs.ParamsText.{group_text, groups_text}
use Rattle.c_objects.specs.Queue.{drafted}
use Rattle.c_objects.proofs.told.push_groups.Given as goal

-- the text so far, and the groups that are left, make up the whole text
abbrev pub invariant-loop-group : goal.invariant-loop-group
invariant-loop-group l =
    drafted (l.draft ++ flat_map (λ y. codes ";" ++ group_text y) (map (λ g. g.now) (drop l.group-index l.rest)))
    ≡ drafted (l.fn.draft ++ groups_text (map (λ g. g.now) l.fn.groups))
