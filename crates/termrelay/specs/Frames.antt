-- The frames of a hub's screen: the latest one, which clients in step share, and the numbers of moments.
use Rattle.std.specs.Prelude.{◌≡◌, ℕ, ◌<◌, ◌≤◌, Option, IfSome}
use Rattle.std.specs.Option.{option_map}
use Rattle.slab.specs.Slab.{Slab, get}
use Rattle.terminal_model.specs.Term.{Size, Shown}
use Rattle.screen_model.specs.Call.{ScreenView}
use Rattle.screen_model.specs.Shown.{shown_state}
use Rattle.termrelay.specs.Frame.{frame_text}
use Rattle.termrelay.specs.Answers.{due}
use Rattle.termrelay.specs.ClientRecord.{FrameView, RecordView, IsFrameOf}

-- the latest frame, if what it leads to is still shown, and how many moments have a number
pub record FramesView : Type 0 where
  pub latest : Option FrameView
  pub moments : ℕ

-- this many moments have a number of their own
abbrev pub most_moments : ℕ
most_moments = 18446744073709551615

-- the latest frame leads to what the present screen shows, and its moment has a number of its own
pub record IsLatestOf (now : ScreenView) (moments : ℕ) (f : FrameView) : Type 0 where
  pub frame : IsFrameOf now f
  pub shown : shown_state f.base.screen.state ≡ shown_state now.state
  pub counted : moments < most_moments

-- By what was shown at each of the first `moments` moments: a frame shows what was shown at its moment, and it is the
-- frame that was due then, from what was shown at the moment that it leads on from.
pub record IsNumbered (shown_at : ℕ → Shown) (moments : ℕ) (z : Size) (f : FrameView) : Type 0 where
  pub known : IfSome f.from (λ n. n < moments)
  pub moment : f.base.moment < moments
  pub shown : shown_state f.base.screen.state ≡ shown_at f.base.moment
  pub answer : f.answer ≡ due z (shown_at f.base.moment) (option_map shown_at f.from)
  pub text : f.text ≡ frame_text z (option_map shown_at f.from) (shown_at f.base.moment)

-- the last frame of each client, if it had one, is such a frame
abbrev pub EachLast : Slab RecordView → (FrameView → Type 0) → Type 0
EachLast clients P = (key : ℕ) → IfSome (get clients key) (λ r. IfSome r.last P)

-- two lists of what was shown agree on the first `moments` moments
abbrev pub AgreeOn : ℕ → (ℕ → Shown) → (ℕ → Shown) → Type 0
AgreeOn moments s t = (n : ℕ) → n < moments → t n ≡ s n

-- the latest frame and another one, if there is one, are numbered
pub record AreNumbered (shown_at : ℕ → Shown) (z : Size) (v : FramesView) (other : Option FrameView) : Type 0 where
  pub latest : IfSome v.latest (IsNumbered shown_at v.moments z)
  pub last : IfSome other (IsNumbered shown_at v.moments z)

-- what was shown at each moment can be given, unless there are too many moments
abbrev pub CanNumber : Size → FramesView → Option FrameView → Type 0
CanNumber z v last = v.moments < most_moments → (shown_at : ℕ → Shown) × AreNumbered shown_at z v last

-- frames v are numbered, and become w: the latest frame and one that is given, if there is one, are numbered too
pub record GoesOnNumbering (shown_at : ℕ → Shown) (z : Size) (v w : FramesView) (given : Option FrameView) : Type 0 where
  pub shown_then : ℕ → Shown
  pub agree : AgreeOn v.moments shown_at shown_then
  pub after : AreNumbered shown_then z w given

-- the same, whatever was shown at each moment, unless there are too many moments
pub record KeepsNumbers (z : Size) (v : FramesView) (last : Option FrameView) (w : FramesView) (given : Option FrameView)
    : Type 0 where
  pub more : w.moments < most_moments → v.moments ≤ w.moments
  pub goes_on : (shown_at : ℕ → Shown) → AreNumbered shown_at z v last → w.moments < most_moments
      → GoesOnNumbering shown_at z v w given
