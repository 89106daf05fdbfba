-- The calls of a handler that each form causes.
use Rattle.std.specs.Prelude.{ℕ, pos, ◌+◌, ◌-◌, ◌==◌, Bool, true, false, List, [], ◌∷◌, ◌++◌, map, nat_lt, unwrap_or}
use Rattle.std.specs.Prelude.{Option, Some, None, if◌then◌else◌}
use Rattle.std.specs.List.{flat_map}
use Rattle.vte_types.specs.Call as call
use Rattle.vte_types.specs.Call.{Call}
use Rattle.vte_types.specs.Lookup.{lookup}
use Rattle.vte_types.specs.Mode.{private_mode_of}
use Rattle.vte_types.specs.declared.attr.Attr.{Attr}
use Rattle.vte_types.specs.declared.attr.Attr.TheVariants as a
use Rattle.vte_types.specs.declared.clear.ClearMode.TheVariants as screen
use Rattle.vte_types.specs.declared.clear.LineClearMode.TheVariants as line
use Rattle.vte_types.specs.declared.color.Color.{Color as Reported}
use Rattle.vte_types.specs.declared.color.Color.TheVariants.{Named, Spec, Indexed}
use Rattle.vte_types.specs.declared.color.NamedColor.{NamedColor}
use Rattle.vte_types.specs.declared.color.NamedColor.TheVariants as n
use Rattle.vte_types.specs.declared.cursor.CursorShape.TheVariants as shape
use Rattle.vte_types.specs.declared.cursor.CursorStyle.{CursorStyle as Drawn}
use Rattle.vt100_forms.specs.declared.attrs.Color.{Color}
use Rattle.vt100_forms.specs.declared.attrs.Color.TheVariants.{Default, Idx, Rgb}
use Rattle.vt100_forms.specs.declared.term.Intensity.{Intensity}
use Rattle.vt100_forms.specs.declared.term.Intensity.TheVariants.{Normal, Bold, Dim}
use Rattle.vt100_forms.specs.declared.modes.CursorStyle.{CursorStyle}
use Rattle.vt100_forms.specs.declared.modes.CursorStyle.TheVariants as style
use Rattle.vt100_forms.specs.Form.{Form, Text, MoveTo, MoveRight, EraseChar, ClearRowForward, ClearScreen, ClearAttrs}
use Rattle.vt100_forms.specs.Form.{Crlf, Lf, Backspace, SaveCursor, RestoreCursor, HideCursor, Keypad, CursorKeys}
use Rattle.vt100_forms.specs.Form.{Paste, Mouse, Encoding, Style, Sgr, Change, mouse_number, encoding_number}
use Rattle.vt100_forms.specs.Form.{style_number}
use Rattle.forms_read.specs.Events.{kept_number, mode_steps}

-- ---- attributes

-- the 16 named colours, by their numbers
abbrev pub named_rows : List (ℕ × NamedColor)
named_rows =
    (0, n.Black) ∷ (1, n.Red) ∷ (2, n.Green) ∷ (3, n.Yellow) ∷ (4, n.Blue) ∷ (5, n.Magenta) ∷ (6, n.Cyan)
    ∷ (7, n.White)
    ∷ (8, n.BrightBlack) ∷ (9, n.BrightRed) ∷ (10, n.BrightGreen) ∷ (11, n.BrightYellow) ∷ (12, n.BrightBlue)
    ∷ (13, n.BrightMagenta) ∷ (14, n.BrightCyan) ∷ (15, n.BrightWhite) ∷ []

abbrev pub name_of : ℕ → NamedColor
name_of i = unwrap_or (lookup i named_rows) n.Foreground

-- a colour as a handler's calls have it; `own` is the terminal's default colour
abbrev pub color_reported : NamedColor → Color → Reported
color_reported own Default = Named own
color_reported own (Idx i) = if nat_lt i 16 then Named (name_of i) else Indexed i
color_reported own (Rgb r g b) = Spec (record { r = r; g = g; b = b })

abbrev pub foreground_reported : Option Color → List Attr
foreground_reported None = []
foreground_reported (Some x) = a.Foreground (color_reported n.Foreground x) ∷ []

abbrev pub background_reported : Option Color → List Attr
background_reported None = []
background_reported (Some x) = a.Background (color_reported n.Background x) ∷ []

abbrev pub intensity_reported : Option Intensity → List Attr
intensity_reported None = []
intensity_reported (Some Normal) = a.CancelBoldDim ∷ []
intensity_reported (Some Bold) = a.Bold ∷ []
intensity_reported (Some Dim) = a.Dim ∷ []

abbrev pub flag_reported : Attr → Attr → Option Bool → List Attr
flag_reported on off None = []
flag_reported on off (Some true) = on ∷ []
flag_reported on off (Some false) = off ∷ []

-- the attributes that a change of the drawing attributes sets, in order
abbrev pub change_reported : Change → List Attr
change_reported c =
    foreground_reported c.fgcolor ++ background_reported c.bgcolor ++ intensity_reported c.intensity
    ++ flag_reported a.Italic a.CancelItalic c.italic
    ++ flag_reported a.Underline a.CancelUnderline c.underline ++ flag_reported a.Reverse a.CancelReverse c.inverse

-- ---- modes, and the cursor's style

abbrev pub set_call : ℕ → Call
set_call number = call.set_private_mode (private_mode_of number)

abbrev pub reset_call : ℕ → Call
reset_call number = call.unset_private_mode (private_mode_of number)

abbrev pub mode_calls : ℕ → ℕ → List Call
mode_calls = mode_steps set_call reset_call

abbrev pub style_reported : CursorStyle → Option Drawn
style_reported style.Default = None
style_reported style.BlinkBlock = Some (record { shape = shape.Block; blinking = true })
style_reported style.SteadyBlock = Some (record { shape = shape.Block; blinking = false })
style_reported style.BlinkUnderline = Some (record { shape = shape.Underline; blinking = true })
style_reported style.SteadyUnderline = Some (record { shape = shape.Underline; blinking = false })
style_reported style.BlinkVerticalBar = Some (record { shape = shape.Beam; blinking = true })
style_reported style.SteadyVerticalBar = Some (record { shape = shape.Beam; blinking = false })

-- ---- forms

-- The number that a handler gets for a row or a column, counted from 0. It is sent counted from 1, and the parser keeps
-- at most 65,535: so 65,535 comes back as 65,534.
abbrev pub place_reported : ℕ → ℕ
place_reported r = kept_number (r + 1) - 1

-- the calls that a processor makes for each form
abbrev pub form_calls : Form → List Call
form_calls (Text cs) = map call.input cs
form_calls (MoveTo r c) = call.goto (pos (place_reported r)) (place_reported c) ∷ []
form_calls (MoveRight count) = if count == 0 then [] else call.move_forward (kept_number count) ∷ []
form_calls (EraseChar count) = if count == 0 then [] else call.erase_chars (kept_number count) ∷ []
form_calls ClearRowForward = call.clear_line line.Right ∷ []
form_calls ClearScreen = call.goto (pos 0) 0 ∷ call.clear_screen screen.Below ∷ []
form_calls ClearAttrs = call.terminal_attribute a.Reset ∷ []
form_calls Crlf = call.carriage_return ∷ call.linefeed ∷ []
form_calls Lf = call.linefeed ∷ []
form_calls Backspace = call.backspace ∷ []
form_calls SaveCursor = call.save_cursor_position ∷ []
form_calls RestoreCursor = call.restore_cursor_position ∷ []
form_calls (HideCursor true) = reset_call 25 ∷ []
form_calls (HideCursor false) = set_call 25 ∷ []
form_calls (Keypad true) = call.set_keypad_application_mode ∷ []
form_calls (Keypad false) = call.unset_keypad_application_mode ∷ []
form_calls (CursorKeys true) = set_call 1 ∷ []
form_calls (CursorKeys false) = reset_call 1 ∷ []
form_calls (Paste true) = set_call 2004 ∷ []
form_calls (Paste false) = reset_call 2004 ∷ []
form_calls (Mouse to from) = mode_calls (mouse_number to) (mouse_number from)
form_calls (Encoding to from) = mode_calls (encoding_number to) (encoding_number from)
form_calls (Style to from) = if style_number to == style_number from then [] else call.set_cursor_style
    (style_reported to)
    ∷ []
form_calls (Sgr change) = map call.terminal_attribute (change_reported change)

-- the calls of a list of forms
abbrev pub form_calls_all : List Form → List Call
form_calls_all fs = flat_map form_calls fs
