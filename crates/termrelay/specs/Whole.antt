-- Whole frames, which lead from anything that frames can leave: for streams that several terminals read.
use Rattle.std.specs.Prelude.{ℕ, nat_lt, List, [], ◌∷◌, ◌++◌, length, Option, Some, None, if◌then◌else◌}
use Rattle.vt100_forms.specs.declared.modes.MouseProtocolMode.TheVariants as mouse
use Rattle.vt100_forms.specs.declared.modes.MouseProtocolEncoding.TheVariants as encoding
use Rattle.vt100_forms.specs.declared.modes.CursorStyle.TheVariants as style
use Rattle.vt100_forms.specs.Form.{Form, Mouse, Encoding, Style, bytes_of}
use Rattle.terminal_model.specs.Term.{Size, Shown, Term, shown_of}
use Rattle.terminal_model.specs.Apply.{run}
use Rattle.terminal_model.specs.Leads.{Leads}
use Rattle.terminal_model.specs.FormText.{AreSentForms}
use Rattle.screen_drawing.specs.Screen.{state_formatted}
use Rattle.screen_drawing.specs.Laws.{IsDrawableScreen, IsKnown}
use Rattle.screen_drawing.specs.Length.{IsSmallScreen}
use Rattle.vt100_core.specs.Picture.{grid_size}
use Rattle.screen_model.specs.Call.{ScreenView}
use Rattle.screen_model.specs.Shown.{shown_state}
use Rattle.termrelay.specs.Frame.{start_mark, end_mark, HasModesOf}
use Rattle.termrelay.specs.Answers.{longest_frame}

-- Each mode of the mouse, each encoding and the cursor's style are turned off: private modes 9, 1000, 1002, 1003, 1005
-- and 1006 are reset (xterm's control sequences), and DECSCUSR 0.
unfoldable pub modes_off : List Form
modes_off =
    Mouse mouse.None mouse.Press ∷ Mouse mouse.None mouse.PressRelease ∷ Mouse mouse.None mouse.ButtonMotion
    ∷ Mouse mouse.None mouse.AnyMotion ∷ Encoding encoding.Default encoding.Utf8
    ∷ Encoding encoding.Default encoding.Sgr ∷ Style style.Default style.SteadyBlock ∷ []

-- the forms of the body
abbrev pub whole_forms : Size → Shown → List Form
whole_forms z now = modes_off ++ state_formatted z now

-- a whole frame's bytes
abbrev pub whole_text : Size → Shown → List ℕ
whole_text z now = start_mark ++ (bytes_of (whole_forms z now) ++ end_mark)

-- The whole frame of what was shown at the client's last frame. It is `None` before the client's first frame, and if it
-- is too long.
abbrev pub whole_of : Size → Option Shown → Option (List ℕ)
whole_of z None = None
whole_of z (Some base) =
    if nat_lt longest_frame (length (whole_text z base)) then None
    else Some (whole_text z base)

-- the whole frame of the screen of the last frame, if there was one, on a terminal of that screen's size
abbrev pub whole_kept : Option ScreenView → Option (List ℕ)
whole_kept None = None
whole_kept (Some v) = whole_of (grid_size v.state.shown) (Some (shown_state v.state))

-- ---- what it makes of a terminal

-- it leads to the screen from whatever is shown
abbrev pub EachWholeFrameLeads : Type 0
EachWholeFrameLeads = (z : Size) (now from : Shown) → IsDrawableScreen z now → Leads z (whole_forms z now) from now

-- also if the screen is unsure, it sets its modes and cursor style
abbrev pub EachWholeFrameSetsModes : Type 0
EachWholeFrameSetsModes = (z : Size) (now : Shown) (t : Term)
    → HasModesOf now (shown_of (run z (whole_forms z now) t))

-- its body is a list of forms that writers send
abbrev pub EachWholeFrameIsSent : Type 0
EachWholeFrameIsSent = (z : Size) (now : Shown) → IsSmallScreen z now → IsKnown now → AreSentForms (whole_forms z now)
