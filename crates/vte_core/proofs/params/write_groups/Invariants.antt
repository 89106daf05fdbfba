use Rattle.std.proofs.Common.{◌≡◌, ℕ, List, ◌++◌, codes}
use Rattle.std.specs.List.{flat_map}
use Rattle.std.specs.Fmt.{HasWritten, IsPlainFormatter}
use Rattle.vte_core.specs.ParamsText.{group_text, groups_text}
use Rattle.vte_core.proofs.params.write_groups.Given as goal

-- what was written, and what is left
abbrev pub invariant-loop-group : goal.invariant-loop-group
invariant-loop-group g l =
    IsPlainFormatter l.fn.f
    → (done : List ℕ) × HasWritten g.W.Write.write_str_gives l.fn.f done l.f
    × (done ++ flat_map (λ group. codes ";" ++ group_text group) l.group-iterator ≡ groups_text l.fn.groups)
