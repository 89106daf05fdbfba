use Rattle.std.proofs.Common.{◌≡◌, ◌≤◌, ◌++◌, length}
use Rattle.std.specs.List.{flat_map}
use Rattle.charset_filter.specs.Behind.{as_known, sgr}
use Rattle.charset_filter.proofs.BehindLemmas.{rest_of}
use Rattle.charset_filter.proofs.behind.push_sgr.Given as goal

-- the bytes so far, and those of the groups that are left
abbrev pub invariant-loop-group : goal.invariant-loop-group
invariant-loop-group l =
    length (l.fn.behind.items ++ sgr (flat_map as_known l.fn.params)) ≤ 252
    → l.behind.items ++ rest_of l.some (flat_map as_known l.groups)
    ≡ l.fn.behind.items ++ sgr (flat_map as_known l.fn.params)

abbrev pub decreases-loop-group : goal.decreases-loop-group
decreases-loop-group l = length l.groups
