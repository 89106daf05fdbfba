-- What is due to a client without pending bytes, if the program is in no synchronized update.
use Rattle.std.specs.Prelude.{◌≡◌, ◌+◌, min, false, Option, Some, None, Result, Ok, Err, MatchOption, IsSomeAnd}
use Rattle.vt100_core.specs.Picture.{grid_size}
use Rattle.screen_model.specs.Call.{ScreenView}
use Rattle.screen_model.specs.Shown.{shown_state}
use Rattle.vt100.specs.Copies.{copy_of}
use Rattle.termrelay.specs.Frame.{frame_text}
use Rattle.termrelay.specs.Answers.{due, is_frame, unless_too_long}
use Rattle.termrelay.specs.ClientRecord.{BaseView, FrameView, moment_of, shown_at_last, IsFrameOf, is_unsure_screen}
use Rattle.termrelay.specs.Frames.{FramesView, most_moments}
use Rattle.termrelay.specs.declared.answer.Answer.TheVariants.{Unchanged}
use Rattle.termrelay.specs.declared.error.HubError.{HubError}
use Rattle.termrelay.specs.declared.frames.Due.{Due}
use Rattle.termrelay.specs.declared.frames.Due.TheVariants.{Frame, Without}

-- a frame that is due to a client with this last frame
pub record IsDueFrame (now : ScreenView) (last : Option FrameView) (f : FrameView) : Type 0 where
  pub frame : IsFrameOf now f
  pub shown : shown_state f.base.screen.state ≡ shown_state now.state
  pub answer : f.answer ≡ due (grid_size now.state.shown) (shown_state now.state) (shown_at_last last)
  pub text : f.text ≡ frame_text (grid_size now.state.shown) (shown_at_last last) (shown_state now.state)

-- that, or the answer without a frame
abbrev pub IsDue : ScreenView → Option FrameView → Due → Type 0
IsDue now last (Frame f) = IsDueFrame now last f.value
IsDue now last (Without answer) =
    (is_frame answer ≡ false)
    × (answer ≡ unless_too_long (grid_size now.state.shown) (shown_state now.state) (shown_at_last last)
    (due (grid_size now.state.shown) (shown_state now.state) (shown_at_last last)))

-- the frame that is given, if there is one
abbrev pub given_by : Result Due HubError → Option FrameView
given_by (Ok (Frame f)) = Some f.value
given_by (Ok (Without answer)) = None
given_by (Err e) = None

-- ---- how it is found

-- What is due is known by the latest frame: that frame, if it leads on from the moment of the client's last one; or
-- nothing has changed, if both are of one moment, and what was shown then is sure.
abbrev pub SharesLatest : Option FrameView → Option FrameView → Due → Type 0
SharesLatest latest last (Frame f) = (latest ≡ Some f.value) × (moment_of last ≡ f.value.from)
SharesLatest latest last (Without answer) =
    (answer ≡ Unchanged)
    × IsSomeAnd latest (λ f. IsSomeAnd last
    (λ g. (g.base.moment ≡ f.base.moment) × (is_unsure_screen g.base.screen ≡ false)))

-- The base of a new frame takes frames v to w: it is the latest frame's, or a copy that gets the next number.
abbrev pub TakesNumber : ScreenView → FramesView → BaseView → FramesView → Type 0
TakesNumber now v base w =
    MatchOption v.latest
    ((base ≡ record { moment = v.moments; screen = copy_of now })
    × (w ≡ record { latest = None; moments = min (v.moments + 1) most_moments }))
    (λ f. (base ≡ f.base) × ((w.latest ≡ Some f) × (w.moments ≡ v.moments)))
