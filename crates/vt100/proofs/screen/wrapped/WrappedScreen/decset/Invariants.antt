use Rattle.std.proofs.Common.{◌≡◌, ◌+◌, ◌≤◌, [], length, true, false}
use Rattle.std.specs.List.{list_any}
use Rattle.screen_model.specs.PrivateModes.{modes_from, modes_set, set_rows}
use Rattle.vt100.specs.Memory.{is_unused, shows_alternate}
use Rattle.vt100.specs.Tries.{SameBounds}
use Rattle.vt100.proofs.screen.wrapped.WrappedScreen.decset.Given as goal

-- what all groups make of the start, those that are left make of the state now
abbrev pub invariant-loop-group : goal.invariant-loop-group
invariant-loop-group g l = record {
  live : l.self.screen.failed ≡ false;
  same : l.self.callbacks ≡ l.fn.self.callbacks;
  few : l.unhandled + length l.groups ≤ 32;
  modes : modes_from set_rows (record { state = l.self.screen.state; reports = []; unhandled = l.unhandled }) l.groups
      ≡ modes_set l.fn.params l.fn.self.screen.state;
  bounds : SameBounds l.fn.self.screen.state l.self.screen.state;
  shows : list_any shows_alternate l.groups ≡ true → list_any shows_alternate l.fn.params ≡ true;
  unused : is_unused l.self.screen.state ≡ true → is_unused l.fn.self.screen.state ≡ true;
}

abbrev pub decreases-loop-group : goal.decreases-loop-group
decreases-loop-group g l = length l.groups
