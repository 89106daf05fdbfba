use Rattle.std.proofs.Common.{◌≡◌, ◌<◌, Err, map, rules}
use Rattle.vt100.specs.declared.error.ScreenError.TheVariants.{Memory}
use Rattle.screen_model.proofs.ProperSheets.{proper_printed_all}
use Rattle.vt100.proofs.ReceiveLemmas.{scroll_refused}
use Rattle.vt100.proofs.RunLemmas.{run_drawn, run_scrolls, run-spacing}
use Rattle.vt100.proofs.ProperScreens.{drawn_screen}
use Rattle.vt100.proofs.screen.wrapped.WrappedScreen.run.Goals as goal

pub returns-in_err-note_failure : goal.returns-in_err-note_failure
returns-in_err-note_failure g c =
    let xs = map g.G.Glyph.code c.args.text.now in
    let some : 0 < c.args.self.now.screen.state.shown.width = search rules in
    let is : c.from_residual.result ≡ Err Memory = search rules in
    let spacing = run-spacing g.G.Glyph.code (g.G.Glyph.Takes g.row.COLUMNS) g.row.COLUMNS _ c.requires.columns some
    c.requires.room (g.met.G.Glyph.drawn g.row.COLUMNS) c.args.text.now c.requires.drawn in
    let e = c.print_run-drawn.ensures in
    rw is (run_scrolls g.CB.Callbacks.scrolls xs spacing (rw (← c.self.view_is) (scroll_refused g.CB.Callbacks.scrolls
    (run_drawn xs) _ c.print_run-drawn.result c.if-self.false c.in_err-note_failure.ensures.failed
    c.in_err-note_failure.ensures.refused e.reported e.limits e.keeps_none e.stays)))

pub returns : goal.returns
returns g c =
    let xs = map g.G.Glyph.code c.args.text.now in
    let some : 0 < c.args.self.now.screen.state.shown.width = search rules in
    let spacing = run-spacing g.G.Glyph.code (g.G.Glyph.Takes g.row.COLUMNS) g.row.COLUMNS _ c.requires.columns some
    c.requires.room (g.met.G.Glyph.drawn g.row.COLUMNS) c.args.text.now c.requires.drawn in
    run_scrolls g.CB.Callbacks.scrolls xs spacing (search rules)

pub invariant_of-self-2 : goal.invariant_of-self-2
invariant_of-self-2 g c =
    let xs = map g.G.Glyph.code c.args.text.now in
    let e = c.print_run-drawn.ensures in
    rw c.in_ok-note_failure.ensures.same (drawn_screen _ _ _ c.self.invariant e.allocated e.limits
    (rw (rw c.in_ok-note_failure.ensures.done at e.grid)
    (proper_printed_all c.self.inside.0.0.grid xs _ c.self.invariant.attrs)))
