use Rattle.std.proofs.Common.{◌≡◌, Err, rules}
use Rattle.vt100.specs.declared.error.ScreenError.TheVariants.{Memory}
use Rattle.screen_model.specs.Step.{typed}
use Rattle.screen_model.proofs.ProperSheets.{proper_printed}
use Rattle.vt100.proofs.ReceiveLemmas.{scroll_refused}
use Rattle.vt100.proofs.ProperScreens.{drawn_screen}
use Rattle.vt100.proofs.screen.wrapped.WrappedScreen.text.Goals as goal

pub returns-in_err-printed : goal.returns-in_err-printed
returns-in_err-printed g c =
    let is : c.from_residual.result ≡ Err Memory = search rules in
    let e = c.print-drawn.ensures.drawn in
    rw is (rw (← c.self.view_is) (scroll_refused g.CB.Callbacks.scrolls (typed c.args.c) _ c.print-drawn.result
    c.if-self.false c.in_err-printed.ensures.failed c.in_err-printed.ensures.refused e.reported e.limits e.keeps_none
    e.stays))

pub invariant_of-self-2 : goal.invariant_of-self-2
invariant_of-self-2 g c =
    let e = c.print-drawn.ensures.drawn in
    rw c.in_ok-printed.ensures.same (drawn_screen _ _ _ c.self.invariant e.allocated e.limits
    (rw (rw c.in_ok-printed.ensures.done at e.grid) (proper_printed c.self.inside.0.0.grid c.args.c _
    c.self.invariant.attrs)))
