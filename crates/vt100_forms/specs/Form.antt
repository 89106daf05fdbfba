-- The forms that are sent to a terminal, and the bytes of each (`form_bytes`). A form is one escape sequence, or the
-- text of one cell.
use Rattle.std.specs.Prelude.{ℕ, ◌≡◌, ◌+◌, ◌-◌, ◌==◌, ◌&&◌, bit_and, bit_or, unwrap_or, List, [], ◌∷◌, ◌++◌, Bool, true}
use Rattle.std.specs.Prelude.{false, if◌then◌else◌, nat_lt, decimal, codes, encode_utf8_all, Option, Some, None}
use Rattle.std.specs.List.{flat_map}
use Rattle.vt100_forms.specs.declared.attrs.Color.{Color}
use Rattle.vt100_forms.specs.declared.attrs.Color.TheVariants.{Default, Idx, Rgb}
use Rattle.vt100_forms.specs.declared.attrs.Attrs.{Attrs}
use Rattle.vt100_forms.specs.declared.term.Intensity.{Intensity}
use Rattle.vt100_forms.specs.declared.term.Intensity.TheVariants.{Normal, Bold, Dim}
use Rattle.vt100_forms.specs.declared.modes.MouseProtocolMode.{MouseProtocolMode}
use Rattle.vt100_forms.specs.declared.modes.MouseProtocolMode.TheVariants as mouse
use Rattle.vt100_forms.specs.declared.modes.MouseProtocolEncoding.{MouseProtocolEncoding}
use Rattle.vt100_forms.specs.declared.modes.MouseProtocolEncoding.TheVariants as encoding
use Rattle.vt100_forms.specs.declared.modes.CursorStyle.{CursorStyle}
use Rattle.vt100_forms.specs.declared.modes.CursorStyle.TheVariants as style
use Rattle.vt100_forms.specs.declared.position.Pos.{Pos}
use Rattle.vt100_forms.specs.Attrs.{default_attrs, color_eq, attrs_eq, is_bold, is_dim, is_italic, is_underlined}
use Rattle.vt100_forms.specs.Attrs.{is_inverse, IsProper}

-- which attributes an SGR form sets, and to what
pub record Change : Type 0 where
  pub fgcolor : Option Color
  pub bgcolor : Option Color
  pub intensity : Option Intensity
  pub italic : Option Bool
  pub underline : Option Bool
  pub inverse : Option Bool

abbrev pub no_change : Change
no_change = record { fgcolor = None; bgcolor = None; intensity = None; italic = None; underline = None; inverse = None }

-- one escape sequence, or the text of one cell
pub data Form : Type 0 where
  -- the text of one cell: a character of one or two columns, and those of no width that follow it
  Text : (characters : List ℕ) → Form
  -- the cursor's row and column, counted from 0
  MoveTo : (row col : ℕ) → Form
  -- CUF
  MoveRight : (count : ℕ) → Form
  -- ECH
  EraseChar : (count : ℕ) → Form
  -- EL 0
  ClearRowForward : Form
  -- CUP to the first column of the first row, and ED 0
  ClearScreen : Form
  -- SGR 0
  ClearAttrs : Form
  Crlf : Form
  Lf : Form
  Backspace : Form
  -- DECSC and DECRC
  SaveCursor : Form
  RestoreCursor : Form
  -- DECTCEM
  HideCursor : (hidden : Bool) → Form
  -- DECKPAM, or DECKPNM
  Keypad : (application : Bool) → Form
  -- DECCKM
  CursorKeys : (application : Bool) → Form
  -- private mode 2004
  Paste : (bracketed : Bool) → Form
  -- the new mode, and the one that the terminal has
  Mouse : (to from : MouseProtocolMode) → Form
  Encoding : (to from : MouseProtocolEncoding) → Form
  Style : (to from : CursorStyle) → Form
  Sgr : (change : Change) → Form

-- the text of a form fulfils P, if it has one
abbrev pub HasText : (List ℕ → Type 0) → Form → Type 0
HasText P (Text cs) = P cs
HasText P _ = Unit {0}

-- a control sequence: ESC [, and what follows
abbrev pub csi : List ℕ → List ℕ
csi bs = 27 ∷ 91 ∷ bs

-- a private mode set or reset
abbrev pub mode_set : ℕ → List ℕ
mode_set n = csi (codes "?" ++ (decimal n ++ codes "h"))

abbrev pub mode_reset : ℕ → List ℕ
mode_reset n = csi (codes "?" ++ (decimal n ++ codes "l"))

-- a control sequence with a count: no bytes for a count of 0, and no number for a count of 1
abbrev pub counted : ℕ → List ℕ → List ℕ
counted n final =
    if n == 0 then []
    else if n == 1 then csi final
    else csi (decimal n ++ final)

abbrev pub mouse_number : MouseProtocolMode → ℕ
mouse_number mouse.None = 0
mouse_number mouse.Press = 9
mouse_number mouse.PressRelease = 1000
mouse_number mouse.ButtonMotion = 1002
mouse_number mouse.AnyMotion = 1003

abbrev pub encoding_number : MouseProtocolEncoding → ℕ
encoding_number encoding.Default = 0
encoding_number encoding.Utf8 = 1005
encoding_number encoding.Sgr = 1006

abbrev pub style_number : CursorStyle → ℕ
style_number style.Default = 0
style_number style.BlinkBlock = 1
style_number style.SteadyBlock = 2
style_number style.BlinkUnderline = 3
style_number style.SteadyUnderline = 4
style_number style.BlinkVerticalBar = 5
style_number style.SteadyVerticalBar = 6

-- a change between private modes, given by their numbers, where 0 is the default: the new one is set, or the earlier
-- one reset
abbrev pub mode_change : ℕ → ℕ → List ℕ
mode_change to from =
    if to == from then []
    else if to == 0 then mode_reset from
    else mode_set to

-- the SGR parameters of a colour; base is 30 for the foreground, 40 for the background
abbrev pub color_numbers : ℕ → Color → List ℕ
color_numbers base Default = (base + 9) ∷ []
color_numbers base (Idx i) =
    if nat_lt i 8 then (base + i) ∷ []
    else if nat_lt i 16 then (base + 52 + i) ∷ []
    else (base + 8) ∷ 5 ∷ i ∷ []
color_numbers base (Rgb r g b) = (base + 8) ∷ 2 ∷ r ∷ g ∷ b ∷ []

abbrev pub intensity_number : Intensity → ℕ
intensity_number Normal = 22
intensity_number Bold = 1
intensity_number Dim = 2

abbrev pub color_part : ℕ → Option Color → List ℕ
color_part base None = []
color_part base (Some c) = color_numbers base c

abbrev pub intensity_part : Option Intensity → List ℕ
intensity_part None = []
intensity_part (Some i) = intensity_number i ∷ []

abbrev pub flag_part : ℕ → ℕ → Option Bool → List ℕ
flag_part on off None = []
flag_part on off (Some true) = on ∷ []
flag_part on off (Some false) = off ∷ []

-- the SGR parameters of a change
abbrev pub sgr_numbers : Change → List ℕ
sgr_numbers c =
    color_part 30 c.fgcolor ++ color_part 40 c.bgcolor ++ intensity_part c.intensity
    ++ flag_part 3 23 c.italic ++ flag_part 4 24 c.underline ++ flag_part 7 27 c.inverse

-- the parameters after the first, each after a ;
abbrev pub further_numbers : List ℕ → List ℕ
further_numbers ns = flat_map (λ n. 59 ∷ decimal n) ns

-- an SGR with these parameters; no bytes if there are none
abbrev pub sgr_text : List ℕ → List ℕ
sgr_text [] = []
sgr_text (n ∷ ns) = csi (decimal n ++ (further_numbers ns ++ codes "m"))

-- the bytes of a form
abbrev pub form_bytes : Form → List ℕ
form_bytes (Text cs) = encode_utf8_all cs
form_bytes (MoveTo r c) =
    if (r == 0) && (c == 0) then csi (codes "H")
    else csi (decimal (r + 1) ++ 59 ∷ (decimal (c + 1) ++ codes "H"))
form_bytes (MoveRight n) = counted n (codes "C")
form_bytes (EraseChar n) = counted n (codes "X")
form_bytes ClearRowForward = csi (codes "K")
form_bytes ClearScreen = csi (codes "H") ++ csi (codes "J")
form_bytes ClearAttrs = csi (codes "m")
form_bytes Crlf = 13 ∷ 10 ∷ []
form_bytes Lf = 10 ∷ []
form_bytes Backspace = 8 ∷ []
form_bytes SaveCursor = 27 ∷ codes "7"
form_bytes RestoreCursor = 27 ∷ codes "8"
form_bytes (HideCursor true) = csi (codes "?25l")
form_bytes (HideCursor false) = csi (codes "?25h")
form_bytes (Keypad true) = 27 ∷ codes "="
form_bytes (Keypad false) = 27 ∷ codes ">"
form_bytes (CursorKeys true) = csi (codes "?1h")
form_bytes (CursorKeys false) = csi (codes "?1l")
form_bytes (Paste true) = csi (codes "?2004h")
form_bytes (Paste false) = csi (codes "?2004l")
form_bytes (Mouse to from) = mode_change (mouse_number to) (mouse_number from)
form_bytes (Encoding to from) = mode_change (encoding_number to) (encoding_number from)
form_bytes (Style to from) =
    if style_number to == style_number from then []
    else csi (decimal (style_number to) ++ codes " q")
form_bytes (Sgr c) = sgr_text (sgr_numbers c)

-- the bytes of a list of forms
abbrev pub bytes_of : List Form → List ℕ
bytes_of fs = flat_map form_bytes fs

-- bold if the bit for bold is set, whatever the bit for dim says
abbrev pub intensity_of : Attrs → Intensity
intensity_of a = if is_bold a then Bold else if is_dim a then Dim else Normal

-- the new value, if it isn't the earlier one
abbrev pub changed_color : Color → Color → Option Color
changed_color old new = if color_eq new old then None else Some new

abbrev pub changed_intensity : Intensity → Intensity → Option Intensity
changed_intensity old new = if intensity_number new == intensity_number old then None else Some new

abbrev pub changed_flag : Bool → Bool → Option Bool
changed_flag true true = None
changed_flag false false = None
changed_flag _ new = Some new

-- what differs between two attributes
abbrev pub changed_attrs : Attrs → Attrs → Change
changed_attrs old new = record {
  fgcolor = changed_color old.fgcolor new.fgcolor;
  bgcolor = changed_color old.bgcolor new.bgcolor;
  intensity = changed_intensity (intensity_of old) (intensity_of new);
  italic = changed_flag (is_italic old) (is_italic new);
  underline = changed_flag (is_underlined old) (is_underlined new);
  inverse = changed_flag (is_inverse old) (is_inverse new);
}

-- the bits of a mode after an SGR: the two bits of the intensity are set together, each other one by itself
abbrev pub intensity_set : Option Intensity → ℕ → ℕ
intensity_set None m = m
intensity_set (Some Normal) m = bit_and m 252
intensity_set (Some Bold) m = bit_or (bit_and m 252) 1
intensity_set (Some Dim) m = bit_or (bit_and m 252) 2

abbrev pub flag_set : ℕ → Option Bool → ℕ → ℕ
flag_set bit None m = m
flag_set bit (Some true) m = bit_or m bit
flag_set bit (Some false) m = bit_and m (255 - bit)

-- the attributes after an SGR form
abbrev pub with_change : Change → Attrs → Attrs
with_change c a = record {
  fgcolor = unwrap_or c.fgcolor a.fgcolor;
  bgcolor = unwrap_or c.bgcolor a.bgcolor;
  mode = flag_set 16 c.inverse (flag_set 8 c.underline (flag_set 4 c.italic (intensity_set c.intensity a.mode)));
}

-- The form, at most one, that takes a terminal from the old attributes to the new ones. It has no bytes if they differ
-- only in bits without a meaning, or in dim beside bold.
abbrev pub change : Attrs → Attrs → List Form
change old new =
    if attrs_eq new old then []
    else if attrs_eq new default_attrs then ClearAttrs ∷ []
    else Sgr (changed_attrs old new) ∷ []

-- an SGR of what differs takes a terminal from the old attributes to the new ones, if both are proper
abbrev pub EachChangeLeads : Type 0
EachChangeLeads = (old new : Attrs) → IsProper old → IsProper new → with_change (changed_attrs old new) old ≡ new

-- the form, at most one, that takes the cursor from p to q
abbrev pub moves : Pos → Pos → List Form
moves p q =
    if (q.row == p.row + 1) && (q.col == 0) then Crlf ∷ []
    else if (p.row == q.row) && (p.col == q.col) then []
    else if (p.row == q.row) && nat_lt p.col q.col then MoveRight (q.col - p.col) ∷ []
    else MoveTo q.row q.col ∷ []
