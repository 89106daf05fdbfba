-- What draws, on a fresh terminal, what a client shows once it has read its frames.
use Rattle.std.specs.Prelude.{ℕ, nat_lt, List, [], length, Option, Some, None, if◌then◌else◌}
use Rattle.terminal_model.specs.Term.{Size, Shown}
use Rattle.vt100_core.specs.Picture.{grid_size}
use Rattle.screen_model.specs.Call.{ScreenView}
use Rattle.screen_model.specs.Shown.{shown_state}
use Rattle.termrelay.specs.Frame.{frame_text}
use Rattle.termrelay.specs.Answers.{longest_frame}

-- The redraw's text: the first frame of what was shown at the client's last frame. Before the first frame it is empty.
abbrev pub redraw_text : Size → Option Shown → List ℕ
redraw_text z None = []
redraw_text z (Some base) = frame_text z None base

-- the redraw; `None` if it is too long
abbrev pub redraw_of : Size → Option Shown → Option (List ℕ)
redraw_of z base = if nat_lt longest_frame (length (redraw_text z base)) then None else Some (redraw_text z base)

-- the redraw of the screen of the last frame, if there was one, on a terminal of that screen's size
abbrev pub redraw_kept : Option ScreenView → Option (List ℕ)
redraw_kept None = Some []
redraw_kept (Some v) = redraw_of (grid_size v.state.shown) (Some (shown_state v.state))
