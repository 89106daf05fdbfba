use Rattle.std.proofs.Common.{◌≡◌, Some, Err, replicate, rules}
use Rattle.vt100.specs.declared.error.ScreenError.TheVariants.{Memory}
use Rattle.screen_model.proofs.ProperSheets.{proper_printed_all}
use Rattle.vt100.proofs.ReceiveLemmas.{scroll_refused}
use Rattle.vt100.proofs.RepeatLemmas.{again_drawn, repeated-scrolls}
use Rattle.vt100.proofs.ProperScreens.{drawn_screen}
use Rattle.vt100.proofs.screen.wrapped.WrappedScreen.rep.Goals as goal

pub returns-in_err-note_failure : goal.returns-in_err-note_failure
returns-in_err-note_failure g c =
    let is : c.from_residual.result ≡ Err Memory = search rules in
    let last : c.args.self.now.screen.state.last ≡ Some c.in-Some.c = search rules in
    let e = c.print_times-drawn.ensures in
    rw is (repeated-scrolls g.CB.Callbacks.scrolls c.args.count c.in-Some.c last
    (rw (← c.self.view_is) (scroll_refused g.CB.Callbacks.scrolls (again_drawn c.args.count c.in-Some.c) _
    c.print_times-drawn.result c.if-self.false c.in_err-note_failure.ensures.failed
    c.in_err-note_failure.ensures.refused e.reported e.limits e.keeps_none e.stays)))

pub returns-in_ok-note_failure : goal.returns-in_ok-note_failure
returns-in_ok-note_failure g c =
    let last : c.args.self.now.screen.state.last ≡ Some c.in-Some.c = search rules in
    repeated-scrolls g.CB.Callbacks.scrolls c.args.count c.in-Some.c last (search rules)

pub invariant_of-self : goal.invariant_of-self
invariant_of-self g c =
    let e = c.print_times-drawn.ensures in
    rw c.in_ok-note_failure.ensures.same (drawn_screen _ _ c.self.inside.0.0.last_char c.self.invariant e.allocated
    e.limits
    (rw (rw c.in_ok-note_failure.ensures.done at e.grid)
    (proper_printed_all c.self.inside.0.0.grid (replicate c.args.count c.in-Some.c) _ c.self.invariant.attrs)))
