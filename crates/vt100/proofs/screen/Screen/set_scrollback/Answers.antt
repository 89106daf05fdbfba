use Rattle.screen_model.proofs.ProperSheets.{proper_scrollback_shown}
use Rattle.vt100.proofs.ProperScreens.{drawn_screen}
use Rattle.vt100.proofs.screen.Screen.set_scrollback.Goals as goal

pub invariant_of-self-2 : goal.invariant_of-self-2
invariant_of-self-2 c =
    let is = rw c.in_ok-note_failure.ensures.done at c.set_scrollback.ensures.grid in
    rw c.in_ok-note_failure.ensures.same
    (drawn_screen _ _ _ c.self.invariant c.set_scrollback.ensures.allocated c.set_scrollback.ensures.limits
    (rw is (proper_scrollback_shown c.self.inside.grid c.args.rows)))
