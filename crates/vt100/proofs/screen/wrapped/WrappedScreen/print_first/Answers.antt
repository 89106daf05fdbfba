use Rattle.std.proofs.Common.{◌∙◌, sym, arith}
use Rattle.vt100.proofs.RunLemmas.{prefix-char}
use Rattle.vt100.proofs.screen.wrapped.WrappedScreen.print_first.Goals as goal
use Rattle.vt100.proofs.screen.wrapped.WrappedScreen.print_first.Goals.{in-Some, in_default}

pub returns-clause-printed : goal.returns-clause-printed
returns-clause-printed g c =
    elim c.match-next.branch [
      | in-Some w ↦
          rw w.self-is (rw c.as_str.ensures (prefix-char g.CB.Callbacks.step g.CB.Callbacks.scrolls c.args.text.now
          c.next.new.self.rest.now w.in-Some.c _ _ _ _ c.utf8.text
          (sym c.chars-chars.ensures.rest ∙ w.in-Some.ensures.steps.0)
          w.print.ensures))
      | in_default w ↦
          absurd (omega (arith, w.in_default.ensures.steps.0, c.chars-chars.ensures.len, c.requires))
    ]
