use Rattle.std.proofs.Common.{◌≡◌, ℕ, ap, sym, ◌∙◌, false, arith}
use Rattle.screen_model.specs.Call.{ScreenView}
use Rattle.screen_model.specs.Made.{Resized}
use Rattle.screen_model.specs.Step.{resized_to}
use Rattle.vt100.specs.Parsing.{ParserView}
use Rattle.vt100.specs.Tries.{alive}
use Rattle.vt100.proofs.PlayLemmas.{put_in}
use Rattle.termrelay.specs.Hub.{HubState, as_kept, GoesOn}
use Rattle.termrelay.proofs.MadeLemmas.{resized-made}
use Rattle.vt100_core.specs.Picture.{grid_size}
use Rattle.termrelay.specs.Frames.{FramesView}
use Rattle.termrelay.proofs.HubLemmas.{none-served, none-numbered, no-clients}
use Rattle.termrelay.proofs.hub.Hub.resize.Goals as goal

put-in-step : (p : ParserView (Unit {0})) (w : ScreenView) (rows cols : ℕ)
    → w ≡ alive (resized_to rows cols p.screen.state).state → GoesOn p (Resized rows cols) (record p { screen = w })
put-in-step p w rows cols is height width capacity acts at = put_in p w rows cols height width capacity acts at is

pub invariant_of-self : goal.invariant_of-self
invariant_of-self c =
    let p = c.self.inside.parser in
    let w = c.set_size.new.self in
    let rows = c.args.rows.value in
    let cols = c.args.cols.value in
    let live : p.screen.failed ≡ false =
    ap (λ (v : HubState as_kept). v.parser.screen.failed) c.self.view_is ∙ sym c.has_failed.ensures
    ∙ c.if-has_failed.false in
    let copy = c.in_ok-screen.ensures.screen ∙ c.screen.ensures in
    let is : w ≡ alive (resized_to rows cols p.screen.state).state =
    c.in_ok-set_size.ensures.tries.screen ∙ ap (λ (v : ScreenView). alive (resized_to rows cols v.state).state) copy in
    record {
      made = λ alive. resized-made p (record p { screen = w }) rows cols (c.args.rows.ok, omega arith)
          (c.args.cols.ok, omega arith) (c.self.invariant.made live)
          (put-in-step p w rows cols is);
      served = λ alive key. none-served c.clear.new.self w key c.clear.ensures.empty;
      latest = rw c.new.ensures tt;
      numbered = λ alive few. none-numbered (grid_size w.state.shown) c.clear.new.self c.new.result
          c.clear.ensures.empty (ap (λ (v : FramesView). v.latest) c.new.ensures);
    }

pub returns : goal.returns
returns c =
    let p = c.self.inside.parser in
    let w = c.set_size.new.self in
    let rows = c.args.rows.value in
    let cols = c.args.cols.value in
    let copy = c.in_ok-screen.ensures.screen ∙ c.screen.ensures in
    let is : w ≡ alive (resized_to rows cols p.screen.state).state =
    c.in_ok-set_size.ensures.tries.screen ∙ ap (λ (v : ScreenView). alive (resized_to rows cols v.state).state)
    copy in (
      sym c.has_failed.ensures ∙ c.if-has_failed.false,
      ap (λ (v : ScreenView). v.failed) is,
      no-clients c.clear.new.self.slots c.clear.ensures.empty,
      rw (← c.self.view_is) (put-in-step p w rows cols is),
    )
