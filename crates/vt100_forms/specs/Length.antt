-- How many bytes a form can have.
use Rattle.std.specs.Prelude.{ℕ, ◌^◌, ◌<◌, ◌≤◌, length, encode_utf8_all, Option, Some, None}
use Rattle.vt100_forms.specs.declared.attrs.Color.{Color}
use Rattle.vt100_forms.specs.declared.attrs.Attrs.{Attrs}
use Rattle.vt100_forms.specs.declared.position.Pos.{Pos}
use Rattle.vt100_forms.specs.Attrs.{IsByteColor, HasByteColors}
use Rattle.vt100_forms.specs.Form.{Form, Text, MoveTo, MoveRight, EraseChar, ClearRowForward, ClearScreen, ClearAttrs}
use Rattle.vt100_forms.specs.Form.{Crlf, Lf, Backspace, SaveCursor, RestoreCursor, HideCursor, Keypad, CursorKeys}
use Rattle.vt100_forms.specs.Form.{Paste, Mouse, Encoding, Style, Sgr, form_bytes, bytes_of, change, moves}

-- both numbers fit in 16 bits, as those of a `Pos` do
abbrev pub IsShortPos : Pos → Type 0
IsShortPos p = (p.row < 2 ^ 16) × (p.col < 2 ^ 16)

abbrev pub IsByteOption : Option Color → Type 0
IsByteOption None = Unit {0}
IsByteOption (Some c) = IsByteColor c

-- each number of a form fits in the type that the code has for it
abbrev pub HasSmallNumbers : Form → Type 0
HasSmallNumbers (MoveTo r c) = (r < 2 ^ 16) × (c < 2 ^ 16)
HasSmallNumbers (MoveRight n) = n < 2 ^ 16
HasSmallNumbers (EraseChar n) = n < 2 ^ 16
HasSmallNumbers (Sgr c) = IsByteOption c.fgcolor × IsByteOption c.bgcolor
HasSmallNumbers _ = Unit {0}

-- the most bytes that a form of each kind takes
abbrev pub longest : Form → ℕ
longest (Text cs) = length (encode_utf8_all cs)
longest (MoveTo r c) = 14
longest (MoveRight n) = 8
longest (EraseChar n) = 8
longest ClearRowForward = 3
longest ClearScreen = 6
longest ClearAttrs = 3
longest Crlf = 2
longest Lf = 1
longest Backspace = 1
longest SaveCursor = 2
longest RestoreCursor = 2
longest (HideCursor b) = 6
longest (Keypad b) = 2
longest (CursorKeys b) = 5
longest (Paste b) = 8
longest (Mouse to from) = 8
longest (Encoding to from) = 8
longest (Style to from) = 5
longest (Sgr c) = 48

abbrev pub EachWrittenFormIsShort : Type 0
EachWrittenFormIsShort = (f : Form) → HasSmallNumbers f → length (form_bytes f) ≤ longest f

abbrev pub EachMoveIsShort : Type 0
EachMoveIsShort = (p q : Pos) → IsShortPos p → IsShortPos q → length (bytes_of (moves p q)) ≤ 14

abbrev pub EachChangeIsShort : Type 0
EachChangeIsShort = (a b : Attrs) → HasByteColors b → length (bytes_of (change a b)) ≤ 48
