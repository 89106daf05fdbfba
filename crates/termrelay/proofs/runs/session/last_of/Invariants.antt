use Rattle.std.proofs.Common.{◌≡◌, false, ◌≤◌, length, drop}
use Rattle.std.specs.List.{list_any}
use Rattle.termrelay.specs.Log.{is_of}
use Rattle.termrelay.proofs.runs.session.last_of.Given as goal

-- none of those from here on is
abbrev pub invariant-loop-at : goal.invariant-loop-at
invariant-loop-at l = record {
  within : l.at ≤ length l.sessions;
  none : list_any (is_of l.client) (drop l.at l.sessions) ≡ false;
}

abbrev pub decreases-loop-at : goal.decreases-loop-at
decreases-loop-at l = l.at
