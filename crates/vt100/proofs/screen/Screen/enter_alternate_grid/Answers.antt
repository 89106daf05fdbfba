use Rattle.std.proofs.Common.{◌∙◌}
use Rattle.vt100.proofs.ProperScreens.{entered_screen, stayed_screen}
use Rattle.vt100.proofs.screen.Screen.enter_alternate_grid.Goals as goal

pub invariant_of-self-then-not-self : goal.invariant_of-self-then-not-self
invariant_of-self-then-not-self c =
    let is = rw c.in_ok-note_failure.ensures.done at c.set_scrollback.ensures.grid in
    let other_is = rw c.in_ok-note_failure-2.ensures.done at c.allocate_rows.ensures.allocated in
    let other_some = rw c.in_ok-note_failure-2.ensures.done at c.allocate_rows.ensures.some in
    rw (c.in_ok-note_failure-2.ensures.same ∙ c.in_ok-note_failure.ensures.same)
    (entered_screen c.self.inside _ _ c.self.invariant c.if-not-self.true (c.swap.ensures.y_after ∙ is)
    (c.swap.ensures.x_after ∙ other_is) (rw c.swap.ensures.y_after c.set_scrollback.ensures.allocated)
    (rw c.swap.ensures.x_after other_some))

pub invariant_of-self-else-not-self : goal.invariant_of-self-else-not-self
invariant_of-self-else-not-self c =
    let is = rw c.in_ok-note_failure.ensures.done at c.set_scrollback.ensures.grid in
    let other_is = rw c.in_ok-note_failure-2.ensures.done at c.allocate_rows.ensures.allocated in
    let other_some = rw c.in_ok-note_failure-2.ensures.done at c.allocate_rows.ensures.some in
    rw (c.in_ok-note_failure-2.ensures.same ∙ c.in_ok-note_failure.ensures.same)
    (stayed_screen c.self.inside _ _ c.self.invariant is other_is c.set_scrollback.ensures.allocated other_some)
