use Rattle.std.proofs.Common.{◌≡◌, ◌++◌}
use Rattle.std.specs.Prelude.{string_bytes}
use Rattle.screentext_command.specs.Texts.{lines_text}
use Rattle.screentext_command.proofs.text.push_shown.Given as goal

-- the rows so far
abbrev pub invariant-loop-row : goal.invariant-loop-row
invariant-loop-row l = string_bytes l.out ≡ string_bytes l.fn.out ++ lines_text l.look l.screen.state.shown l.row
