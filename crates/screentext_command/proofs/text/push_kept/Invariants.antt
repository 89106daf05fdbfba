use Rattle.std.proofs.Common.{◌≡◌, ◌++◌}
use Rattle.std.specs.Prelude.{string_bytes}
use Rattle.vt100.specs.Tries.{alive}
use Rattle.screentext_command.specs.Texts.{kept_text}
use Rattle.recorded_screen.specs.Picture.{scrolled}
use Rattle.screentext_command.proofs.text.push_kept.Given as goal

-- the rows so far
abbrev pub invariant-loop-above : goal.invariant-loop-above
invariant-loop-above l = record {
  text : string_bytes l.out
      ≡ string_bytes l.fn.out ++ kept_text l.look l.fn.screen.state l.count l.above;
  screen : l.screen ≡ alive (scrolled l.fn.screen.state l.count l.above);
}
