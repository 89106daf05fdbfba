use Rattle.std.proofs.Common.{◌-◌}
use Rattle.std.specs.Prelude.{string_bytes}
use Rattle.vt100.proofs.BetweenLemmas.{IsBetween}
use Rattle.vt100.proofs.screen.Screen.contents_between.Given as goal

abbrev pub invariant-loop-r : goal.invariant-loop-r
invariant-loop-r l = IsBetween l.self.state.shown l.start_row l.start_col (l.r - l.start_row) (string_bytes l.contents)
    l.start
