use Rattle.std.proofs.Common.{◌≡◌, ◌≤◌, ◌++◌, length, drop, codes, decimal}
use Rattle.std.specs.List.{flat_map}
use Rattle.vte_core.specs.ParamsText.{group_text}
use Rattle.charset_filter.proofs.behind.push_group_text.Given as goal

-- the bytes so far, and those of the numbers that are left
abbrev pub invariant-loop-number : goal.invariant-loop-number
invariant-loop-number l =
    length (l.fn.behind.items ++ group_text l.fn.group) ≤ 252
    → l.behind.items ++ flat_map (λ y. codes ":" ++ decimal y) (drop l.number-index l.rest)
    ≡ l.fn.behind.items ++ group_text l.fn.group
