-- Frames that clients in step share.
use Rattle.std.proofs.Common.{◌≡◌, ◌∙◌, ℕ, true, false, Option, Some, None, Ok, refl, sym, ap}
use Rattle.std.specs.Prelude.{IsSomeAnd}
use Rattle.std.specs.Option.{IfSome}
use Rattle.terminal_model.specs.Term.{Size}
use Rattle.vt100_core.specs.Picture.{grid_size}
use Rattle.screen_model.specs.Call.{ScreenView}
use Rattle.screen_model.specs.Shown.{shown_state}
use Rattle.termrelay.specs.Answers.{due, is_frame}
use Rattle.termrelay.specs.ClientRecord.{FrameView, moment_of, shown_at_last, IsFrameOf, is_unsure_screen}
use Rattle.termrelay.specs.Frames.{FramesView, IsLatestOf, IsNumbered, CanNumber, KeepsNumbers}
use Rattle.termrelay.specs.Due.{IsDue, IsDueFrame, SharesLatest, given_by}
use Rattle.termrelay.specs.declared.answer.Answer.TheVariants.{Unchanged}
use Rattle.termrelay.specs.declared.frames.Due.{Due}
use Rattle.termrelay.specs.declared.frames.Due.TheVariants.{Frame, Without}
use Rattle.termrelay.proofs.NumberLemmas.{latest-due, moment-unchanged, none-capped, keeps-same}

-- what both are of one moment says
abbrev AreOfOneMoment : Option FrameView → Option FrameView → Type 0
AreOfOneMoment latest last =
    IsSomeAnd latest (λ f. IsSomeAnd last
    (λ g. (g.base.moment ≡ f.base.moment) × (is_unsure_screen g.base.screen ≡ false)))

pub of-one-moment : (latest last : Option FrameView) (f : FrameView) (moment : ℕ) → latest ≡ Some f
    → moment ≡ f.base.moment
    → IsSomeAnd last (λ g. (g.base.moment ≡ moment) × (is_unsure_screen g.base.screen ≡ false))
    → AreOfOneMoment latest last
of-one-moment latest last f moment is number h = rw is (rw number at h)

module _ (now : ScreenView) (v : FramesView) (l : IfSome v.latest (IsLatestOf now v.moments)) where
  -- the latest frame is the one that is due
  latest-given : (last : Option FrameView) (f : FrameView) → CanNumber (grid_size now.state.shown) v last
      → v.latest ≡ Some f → moment_of last ≡ f.from → IsDueFrame now last f
  latest-given last f can is from =
      let z = grid_size now.state.shown in
      let here : IsLatestOf now v.moments f = rw is at l in
      let n = can here.counted in
      let numbered : IsNumbered n.0 v.moments z f = rw is at n.1.latest in
      latest-due n.0 v.moments now last f here numbered n.1.last from

  -- nothing has changed
  same-moment : (latest last : Option FrameView) → v.latest ≡ latest → IfSome last (IsFrameOf now)
      → CanNumber (grid_size now.state.shown) v last → AreOfOneMoment latest last
      → Unchanged ≡ due (grid_size now.state.shown) (shown_state now.state) (shown_at_last last)
  same-moment None last is served can h = absurd h
  same-moment (Some f) None is served can h = absurd h
  same-moment (Some f) (Some g) is served can h =
      let z = grid_size now.state.shown in
      let here : IsLatestOf now v.moments f = rw is at l in
      let n = can here.counted in
      let numbered : IsNumbered n.0 v.moments z f = rw is at n.1.latest in
      moment-unchanged n.0 v.moments now g f here numbered n.1.last served.base h.0 h.1

  pub shares-due : (last : Option FrameView) (d : Due) → IfSome last (IsFrameOf now)
      → CanNumber (grid_size now.state.shown) v last → SharesLatest v.latest last d → IsDue now last d
  shares-due last (Frame a) served can h = latest-given last a.value can h.0 h.1
  shares-due last (Without answer) served can h =
      let z = grid_size now.state.shown in
      let s = shown_state now.state in
      let base = shown_at_last last in
      let unchanged = same-moment v.latest last refl served can h.1 in
      rw h.0 (refl, none-capped z s base Unchanged unchanged refl)

  -- a frame is due
  pub latest-brings : (latest last : Option FrameView) → v.latest ≡ latest
      → CanNumber (grid_size now.state.shown) v last → IsSomeAnd latest (λ f. moment_of last ≡ f.from)
      → is_frame (due (grid_size now.state.shown) (shown_state now.state) (shown_at_last last)) ≡ true
  latest-brings None last is can from = absurd from
  latest-brings (Some f) last is can from =
      let d = latest-given last f can is from in ap is_frame (sym d.answer) ∙ d.frame.brings

pub shares-keeps : (z : Size) (v : FramesView) (last : Option FrameView) (d : Due) → SharesLatest v.latest last d
    → KeepsNumbers z v last v (given_by (Ok d))
shares-keeps z v last (Frame a) h = keeps-same z v last (Some a.value) (λ s are. rw h.0 at are.latest)
shares-keeps z v last (Without answer) h = keeps-same z v last None (λ s are. tt)
