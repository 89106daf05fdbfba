-- What a hub keeps for a client.
use Rattle.std.specs.Prelude.{◌≡◌, ℕ, ◌-◌, Bool, true, false, List, [], drop, length, nat_lt, Option, Some, None, IfSome}
use Rattle.std.specs.Prelude.{if◌then◌else◌}
use Rattle.std.specs.Option.{option_map}
use Rattle.terminal_model.specs.Term.{Shown}
use Rattle.vt100_core.specs.Picture.{grid_size}
use Rattle.screen_model.specs.Call.{ScreenView}
use Rattle.screen_model.specs.Shown.{shown_state}
use Rattle.vt100.specs.WriterLaws.{IsUnscrolled}
use Rattle.termrelay.specs.Frame.{is_unsure, IsShortFrame}
use Rattle.termrelay.specs.Answers.{ClientState, is_frame, longest_frame}
use Rattle.termrelay.specs.declared.answer.Answer.{Answer}

-- the screen at a frame: the number of the moment, and a copy of what was shown
pub record BaseView : Type 0 where
  pub moment : ℕ
  pub screen : ScreenView

-- a frame: the number of the moment that it leads on from, if it isn't a first frame; the answer that brings it; its
-- bytes; and the screen that it leads to
pub record FrameView : Type 0 where
  pub from : Option ℕ
  pub answer : Answer
  pub text : List ℕ
  pub base : BaseView

-- the bytes that wait for the client, and its last frame, if there was one
pub record RecordView : Type 0 where
  pub owed : List ℕ
  pub last : Option FrameView

-- the last `left` bytes of a frame
abbrev pub left_of : Option FrameView → ℕ → List ℕ
left_of None left = []
left_of (Some f) left = drop (length f.text - left) f.text

-- the screen at the last frame
abbrev pub base_of : Option FrameView → Option ScreenView
base_of last = option_map (λ f. f.base.screen) last

-- the moment of the last frame
abbrev pub moment_of : Option FrameView → Option ℕ
moment_of last = option_map (λ f. f.base.moment) last

-- what was shown at the last frame
abbrev pub shown_at_last : Option FrameView → Option Shown
shown_at_last last = option_map (λ v. shown_state v.state) (base_of last)

abbrev pub client_of : RecordView → ClientState
client_of s = record { owed = s.owed; base = shown_at_last s.last }

-- the screen of a client's last frame: it shows no scrollback row, and has the present screen's size
pub record IsBaseOf (now base : ScreenView) : Type 0 where
  pub unscrolled : IsUnscrolled base.state
  pub size : grid_size base.state.shown ≡ grid_size now.state.shown

-- a frame that was made for a screen of the present one's size, and isn't too long
pub record IsFrameOf (now : ScreenView) (f : FrameView) : Type 0 where
  pub base : IsBaseOf now f.base.screen
  pub brings : is_frame f.answer ≡ true
  pub short : IsShortFrame (grid_size now.state.shown) f.text
  pub fits : nat_lt longest_frame (length f.text) ≡ false

-- the client's last frame, if it had one, fits the present screen, and at most the longest frame's bytes wait for the
-- client
pub record IsRecordOf (now : ScreenView) (s : RecordView) : Type 0 where
  pub last : IfSome s.last (IsFrameOf now)
  pub short : IsShortFrame (grid_size now.state.shown) s.owed

-- ---- screens that are sure

-- whether the screen has U+FE0F in a cell, about whose width terminals disagree
abbrev pub is_unsure_screen : ScreenView → Bool
is_unsure_screen v = is_unsure (grid_size v.state.shown) (shown_state v.state)

-- the base, if there is one without U+FE0F
abbrev pub sure_base : Option ScreenView → Option ScreenView
sure_base None = None
sure_base (Some v) = if is_unsure_screen v then None else Some v
