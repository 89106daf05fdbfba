use Rattle.std.proofs.Common.{◌≡◌, ◌+◌, ◌≤◌, [], length, false}
use Rattle.screen_model.specs.PrivateModes.{modes_from, modes_reset, reset_rows}
use Rattle.vt100.proofs.screen.wrapped.WrappedScreen.decrst.Given as goal

-- what all groups make of the start, those that are left make of the state now
abbrev pub invariant-loop-group : goal.invariant-loop-group
invariant-loop-group g l = record {
  live : l.self.screen.failed ≡ false;
  same : l.self.callbacks ≡ l.fn.self.callbacks;
  few : l.unhandled + length l.groups ≤ 32;
  modes : modes_from reset_rows (record { state = l.self.screen.state; reports = []; unhandled = l.unhandled }) l.groups
      ≡ modes_reset l.fn.params l.fn.self.screen.state;
}

abbrev pub decreases-loop-group : goal.decreases-loop-group
decreases-loop-group g l = length l.groups
