use Rattle.std.proofs.Common.{◌-◌, replicate}
use Rattle.screen_model.specs.Effect.{csi_call}
use Rattle.vt100.specs.Goes.{MakesCalls}
use Rattle.vt100.proofs.screen.wrapped.WrappedScreen.report_groups.Given as goal

-- what all calls make of the start, those that are left make of the state now
abbrev pub invariant-loop-i : goal.invariant-loop-i
invariant-loop-i g l =
    (d : _) (w : _) → MakesCalls g.CB.Callbacks.step l.self.callbacks l.self.screen
    (replicate (l.count - l._i) (csi_call l.intermediates l.params l.action)) d w
    → MakesCalls g.CB.Callbacks.step l.initial.self.callbacks l.initial.self.screen
    (replicate l.count (csi_call l.intermediates l.params l.action)) d w
