use Rattle.std.proofs.Common.{◌≡◌, length}
use Rattle.std.specs.List.{list_any}
use Rattle.relay_streams.specs.Updates.{is_update_mode}
use Rattle.relay_streams.proofs.updates.has_update_mode.Given as goal

-- it is among those that are left, if it is among all
abbrev pub invariant-loop-group : goal.invariant-loop-group
invariant-loop-group l = list_any is_update_mode l.groups ≡ list_any is_update_mode l.fn.params

abbrev pub decreases-loop-group : goal.decreases-loop-group
decreases-loop-group l = length l.groups
