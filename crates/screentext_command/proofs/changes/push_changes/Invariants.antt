use Rattle.std.proofs.Common.{◌≡◌, ◌++◌}
use Rattle.std.specs.Prelude.{string_bytes}
use Rattle.screentext_command.specs.Texts.{first_changes}
use Rattle.screentext_command.proofs.changes.push_changes.Given as goal

-- the rows so far
abbrev pub invariant-loop-row : goal.invariant-loop-row
invariant-loop-row l = string_bytes l.out
    ≡ string_bytes l.fn.out ++ first_changes l.look l.before.state.shown l.after.state.shown l.row
