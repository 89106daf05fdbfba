-- A copy of a screen, the differences of two screens, and the parts of what redraws one.
use Rattle.std.specs.Prelude.{◌≡◌, ℕ, ℤ, List, [], None, Result, String, IfOk, OnErr, Err, string_bytes}
use Rattle.std.specs.Prelude.{if◌then◌else◌}
use Rattle.std.specs.Global.{Global}
use Rattle.vt100_forms.specs.Attrs.{is_bold, is_dim, is_italic, is_underlined, is_inverse}
use Rattle.vt100_forms.specs.Form.{bytes_of}
use Rattle.screen_drawing.specs.Modes.{input_mode_formatted, input_mode_diff, attributes_formatted}
use Rattle.screen_drawing.specs.Screen as picture
use Rattle.vt100_capture.specs.Capture.{captured, new_capture}
use Rattle.vt100_core.specs.Grid.{visible}
use Rattle.vt100_core.specs.Picture.{grid_size}
use Rattle.screen_model.specs.Call.{ScreenView}
use Rattle.screen_model.specs.Shown.{shown_state}
use Rattle.screen_model.specs.State.{State}
use Rattle.screen_model.specs.Step.{kept_dropped}
use Rattle.vt100.specs.Copies.{visible_copy_of}
use Rattle.vt100.specs.Parsing.{HasRead}
use Rattle.vt100.specs.Tries.{unless_failed}
use Rattle.vt100.specs.WriterLaws.{IsUnscrolled}
use Rattle.vt100.specs.Writers.{contents_diff, state_diff, cursor_state_formatted, rows_formatted, rows_diff}
use Rattle.vt100.specs.Written.{GivesModes, GivesDifference}
use Rattle.vt100.specs.declared.error.ScreenError.{ScreenError}
use Rattle.vt100.specs.declared.error.ScreenError.TheVariants.{Memory}
use Rattle.c_objects.specs.Codes.{ok, failed, other_kind}
use Rattle.c_objects.specs.Looks.{switch, color_of}
use Rattle.c_objects.specs.Requests.{no_requests}
use Rattle.c_objects.specs.Screens.{with_screen, CopiesGiven}
use Rattle.c_objects.specs.Texts.{CopiesText, CopiesRows}
use Rattle.c_objects.specs.declared.plain.CDrawing.{CDrawing}
use Rattle.c_objects.specs.declared.object.Marked.{Marked}
use Rattle.c_objects.specs.declared.object.Object.{Object}
use Rattle.c_objects.specs.declared.object.Object.TheVariants.{Hub, View, Screen, Recording, Filter}

-- ---- copies

-- this screen, which has read nothing since, without a mark and without requests
pub record IsMadeOf (v : ScreenView) (n : Marked) : Type 0 where
  pub screen : n.parser.screen ≡ v
  pub read : HasRead n.parser []
  pub requests : n.parser.callbacks ≡ no_requests
  pub mark : n.mark ≡ None

-- the object is such a screen
abbrev pub IsScreenOf : ScreenView → Object → Type 0
IsScreenOf v (Hub h) = ⊥
IsScreenOf v (View w) = ⊥
IsScreenOf v (Screen n) = IsMadeOf v n
IsScreenOf v (Recording r) = ⊥
IsScreenOf v (Filter f) = ⊥

-- the object y is a copy of the screen m
abbrev pub IsCopyOf : Object → Marked → ℤ → Type 0
IsCopyOf y m code = IsScreenOf m.parser.screen y

-- the object y draws on copies of the rows that the screen m shows
abbrev pub IsVisibleCopyOf : Object → Marked → ℤ → Type 0
IsVisibleCopyOf y m code = IsScreenOf (visible_copy_of m.parser.screen) y

-- ---- the kept rows

-- the shown sheet's kept rows are removed; a failed screen stays as it is
abbrev pub ClearsKept : Marked → ℤ → Marked → Type 0
ClearsKept m code n =
    (code ≡ (if m.parser.screen.failed then failed else ok))
    × (n ≡ with_screen m (unless_failed kept_dropped m.parser.screen))

-- ---- how the next character is drawn

abbrev pub drawing_of : State → CDrawing
drawing_of s = record {
  foreground = color_of s.attrs.fgcolor;
  background = color_of s.attrs.bgcolor;
  bold = switch (is_bold s.attrs);
  dim = switch (is_dim s.attrs);
  italic = switch (is_italic s.attrs);
  underlined = switch (is_underlined s.attrs);
  inverse = switch (is_inverse s.attrs);
}

abbrev pub Draws : CDrawing → Marked → ℤ → Type 0
Draws drawing m code = (code ≡ ok) × (drawing ≡ drawing_of m.parser.screen.state)

-- ---- parts of what redraws it

abbrev pub HasBasic : List ℕ → List ℕ → ℕ → Marked → ℤ → Type 0
HasBasic old new count m code =
    CopiesText (captured new_capture (visible m.parser.screen.state.shown)) old new count code

abbrev pub HasModes : List ℕ → List ℕ → ℕ → Marked → ℤ → Type 0
HasModes old new count m code =
    CopiesGiven (GivesModes (input_mode_formatted (shown_state m.parser.screen.state)) 128) old new count code

abbrev pub HasAttributes : List ℕ → List ℕ → ℕ → Marked → ℤ → Type 0
HasAttributes old new count m code =
    CopiesText (bytes_of (attributes_formatted (shown_state m.parser.screen.state))) old new count code

-- the forms of the cursor, as the library's call gives them
pub record GivesCursor (s : State) (result : Result (String Global) ScreenError) : Type 0 where
  pub text : IfOk result (λ string. string_bytes string ≡ bytes_of (cursor_state_formatted s))
  pub shown : IsUnscrolled s → IfOk result (λ string. string_bytes string
      ≡ bytes_of (picture.cursor_state_formatted (grid_size s.shown) (shown_state s)))
  pub memory : OnErr result (result ≡ Err Memory)

abbrev pub HasCursor : List ℕ → List ℕ → ℕ → Marked → ℤ → Type 0
HasCursor old new count m code = CopiesGiven (GivesCursor m.parser.screen.state) old new count code

abbrev pub HasRows : ℕ × ℕ → List ℕ → List ℕ → ℕ → List ℕ → List ℕ → ℕ → Marked → ℤ → Type 0
HasRows cols old new count old_lengths new_lengths rows_count m code =
    CopiesRows (rows_formatted m.parser.screen.state.shown cols.0 cols.1) old new count old_lengths new_lengths
    rows_count code

-- ---- differences: what leads from the screen e to the screen m

-- the call reads this from two screens; an object of another kind is refused
abbrev pub ScreensSay : (Marked → Marked → ℤ → Type 0) → Object → Object → ℤ → Type 0
ScreensSay says (Screen m) (Screen e) code = says m e code
ScreensSay says (Screen m) (Hub h) code = code ≡ other_kind
ScreensSay says (Screen m) (View v) code = code ≡ other_kind
ScreensSay says (Screen m) (Recording r) code = code ≡ other_kind
ScreensSay says (Screen m) (Filter f) code = code ≡ other_kind
ScreensSay says (Hub h) y code = code ≡ other_kind
ScreensSay says (View v) y code = code ≡ other_kind
ScreensSay says (Recording r) y code = code ≡ other_kind
ScreensSay says (Filter f) y code = code ≡ other_kind

abbrev pub HasContentsDiff : List ℕ → List ℕ → ℕ → Marked → Marked → ℤ → Type 0
HasContentsDiff old new count m e code =
    CopiesGiven (GivesDifference contents_diff picture.contents_diff 512 e.parser.screen.state m.parser.screen.state)
    old new count code

abbrev pub HasStateDiff : List ℕ → List ℕ → ℕ → Marked → Marked → ℤ → Type 0
HasStateDiff old new count m e code =
    CopiesGiven (GivesDifference state_diff picture.state_diff 1008 e.parser.screen.state m.parser.screen.state) old new
    count code

abbrev pub HasModesDiff : List ℕ → List ℕ → ℕ → Marked → Marked → ℤ → Type 0
HasModesDiff old new count m e code =
    CopiesGiven
    (GivesModes (input_mode_diff (shown_state e.parser.screen.state) (shown_state m.parser.screen.state)) 128)
    old new count code

abbrev pub HasRowsDiff : ℕ × ℕ → List ℕ → List ℕ → ℕ → List ℕ → List ℕ → ℕ → Marked → Marked → ℤ → Type 0
HasRowsDiff cols old new count old_lengths new_lengths rows_count m e code =
    CopiesRows (rows_diff e.parser.screen.state.shown m.parser.screen.state.shown cols.0 cols.1) old new count
    old_lengths new_lengths rows_count code
