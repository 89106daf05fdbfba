use Rattle.std.proofs.Common.{◌≡◌, ◌+◌, ◌≤◌, length}
use Rattle.screen_model.specs.Sgr.{read_groups}
use Rattle.vt100.proofs.screen.sgr.read_groups.Given as goal

-- what all groups make of the start, those that are left make of the state now
abbrev pub invariant-loop-group : goal.invariant-loop-group
invariant-loop-group l = record {
  few : l.unhandled + length l.groups ≤ 32;
  attrs : (read_groups l.groups 0 l.attrs).attrs ≡ (read_groups l.fn.params 0 l.fn.attrs).attrs;
  unhandled : l.unhandled + (read_groups l.groups 0 l.attrs).unhandled
      ≡ (read_groups l.fn.params 0 l.fn.attrs).unhandled;
}

abbrev pub decreases-loop-group : goal.decreases-loop-group
decreases-loop-group l = length l.groups
