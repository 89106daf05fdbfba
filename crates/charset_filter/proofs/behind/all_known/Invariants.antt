use Rattle.std.proofs.Common.{◌≡◌, length}
use Rattle.std.specs.List.{list_all}
use Rattle.charset_filter.specs.Behind.{is_known}
use Rattle.charset_filter.proofs.behind.all_known.Given as goal

-- all groups are known exactly if those that are left are
abbrev pub invariant-loop-group : goal.invariant-loop-group
invariant-loop-group l = list_all is_known l.groups ≡ list_all is_known l.fn.params

abbrev pub decreases-loop-group : goal.decreases-loop-group
decreases-loop-group l = length l.groups
