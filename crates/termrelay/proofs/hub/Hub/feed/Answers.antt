use Rattle.std.proofs.Common.{◌≡◌, ℕ, List, [], ◌∷◌, length, ap, sym, ◌∙◌, refl, arith, false}
use Rattle.std.proofs.lemmas.Bool.{eqb-true}
use Rattle.slab.specs.Slab.{get}
use Rattle.screen_model.specs.Made.{Fed}
use Rattle.termrelay.specs.Hub.{HubState, as_kept, GoesOn}
use Rattle.termrelay.proofs.MadeLemmas.{fed-made, fed-size, nothing-fed}
use Rattle.vt100_core.specs.Picture.{grid_size}
use Rattle.termrelay.specs.Frames.{FramesView}
use Rattle.termrelay.proofs.HubLemmas.{served-still, changed-numbered}
use Rattle.termrelay.proofs.hub.Hub.feed.Goals as goal

no-bytes : (xs : List ℕ) → length xs ≡ 0 → xs ≡ []
no-bytes [] e = refl
no-bytes (x ∷ xs) e = absurd (omega (arith, e))

pub returns-then-is_empty : goal.returns-then-is_empty
returns-then-is_empty c =
    let live = sym c.has_failed.ensures ∙ c.if-has_failed.false in
    let none = no-bytes c.args.bytes.now
    (eqb-true (length c.args.bytes.now) 0 (sym c.is_empty.ensures ∙ c.if-is_empty.true)) in
    (live, live, refl, nothing-fed c.args.self.now.parser c.args.bytes.now none)

pub invariant_of-self-2 : goal.invariant_of-self-2
invariant_of-self-2 c =
    let p = c.self.inside.parser in
    let q = c.process.new.self in
    let live : p.screen.failed ≡ false =
    ap (λ (v : HubState as_kept). v.parser.screen.failed) c.self.view_is ∙ sym c.has_failed.ensures
    ∙ c.if-has_failed.false in
    let step : GoesOn p (Fed c.args.bytes.now) q =
    λ rows cols capacity acts at. c.in_ok-process.ensures.made (λ a v k b w e. sym e) rows cols capacity acts at in
    let made = c.self.invariant.made live in
    record {
      made = λ alive. fed-made p q c.args.bytes.now made step;
      served = λ alive key. served-still p.screen q.screen (get c.self.inside.clients key)
          (fed-size p q c.args.bytes.now made step) (c.self.invariant.served live key);
      latest = rw c.change.ensures tt;
      numbered = λ alive few.
          changed-numbered (grid_size p.screen.state.shown) (grid_size q.screen.state.shown) c.self.inside.clients
          c.self.inside.frames c.change.new.self (fed-size p q c.args.bytes.now made step) c.change.ensures
          (c.self.invariant.numbered live (rw (ap (λ (v : FramesView). v.moments) c.change.ensures) at few));
    }
