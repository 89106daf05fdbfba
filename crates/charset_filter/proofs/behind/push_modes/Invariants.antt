use Rattle.std.proofs.Common.{◌≡◌, ◌≤◌, ◌++◌, length}
use Rattle.charset_filter.specs.Behind.{modes_behind}
use Rattle.charset_filter.proofs.behind.push_modes.Given as goal

-- the bytes so far, and those of the groups that are left
abbrev pub invariant-loop-group : goal.invariant-loop-group
invariant-loop-group l =
    length (l.fn.behind.items ++ modes_behind l.set l.fn.sets l.fn.params) ≤ 252
    → l.behind.items ++ modes_behind l.set l.sets l.groups
    ≡ l.fn.behind.items ++ modes_behind l.set l.fn.sets l.fn.params

abbrev pub decreases-loop-group : goal.decreases-loop-group
decreases-loop-group l = length l.groups
