use Rattle.std.proofs.Common.{◌≡◌, ◌+◌, ◌≤◌, ◌++◌, length, map}
use Rattle.vt100.proofs.screen.wrapped.WrappedScreen.report_csi.Given as goal

abbrev pub invariant-loop-group : goal.invariant-loop-group
invariant-loop-group g l = record {
  few : length l.groups.items + length l.rest ≤ 32;
  so_far : map (λ p. p.now) l.groups.items ++ l.rest ≡ l.params;
}

abbrev pub decreases-loop-group : goal.decreases-loop-group
decreases-loop-group g l = length l.rest
