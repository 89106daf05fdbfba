use Rattle.std.proofs.Common.{◌≡◌, Err, rules}
use Rattle.vt100.specs.declared.error.ScreenError.TheVariants.{Memory}
use Rattle.screen_model.specs.Step.{line_fed}
use Rattle.screen_model.proofs.ProperSheets.{proper_fed}
use Rattle.vt100.proofs.ReceiveLemmas.{scroll_refused}
use Rattle.vt100.proofs.ProperScreens.{drawn_screen}
use Rattle.vt100.proofs.screen.wrapped.WrappedScreen.lf.Goals as goal

pub returns-in_err-note_failure : goal.returns-in_err-note_failure
returns-in_err-note_failure g c =
    let is : c.from_residual.result ≡ Err Memory = search rules in
    let e = c.feed_line-drawn.ensures in
    rw is (rw (← c.self.view_is) (scroll_refused g.CB.Callbacks.scrolls line_fed _ c.feed_line-drawn.result
    c.if-self.false c.in_err-note_failure.ensures.failed c.in_err-note_failure.ensures.refused e.reported e.limits
    e.keeps_none
    e.stays))

pub invariant_of-self-2 : goal.invariant_of-self-2
invariant_of-self-2 g c =
    let e = c.feed_line-drawn.ensures in
    rw c.in_ok-note_failure.ensures.same (drawn_screen _ _ c.self.inside.0.0.last_char c.self.invariant e.allocated
    e.limits
    (rw (rw c.in_ok-note_failure.ensures.done at e.grid) (proper_fed c.self.inside.0.0.grid 1)))
