-- The effect of each call of a handler on the terminal that a view shows. The calls that a screen's writers cause have
-- their usual effect, and every other call does nothing.
use Rattle.std.specs.Prelude.{ℕ, ℤ, pos, negsuc, ◌+◌, ◌-◌, ◌==◌, Bool, true, false, ◌&&◌, nat_lt, min, List, [], ◌∷◌}
use Rattle.std.specs.Prelude.{Option, Some, None, if◌then◌else◌}
use Rattle.vte_types.specs.declared.attr.Attr.{Attr}
use Rattle.vte_types.specs.declared.attr.Attr.TheVariants as a
use Rattle.vte_types.specs.declared.clear.ClearMode.TheVariants as screen
use Rattle.vte_types.specs.declared.clear.LineClearMode.TheVariants as line
use Rattle.vte_types.specs.declared.color.Color.TheVariants as c
use Rattle.vte_types.specs.declared.color.Color.{Color as NamedOrNot}
use Rattle.vte_types.specs.declared.color.NamedColor.{NamedColor}
use Rattle.vte_types.specs.declared.color.NamedColor.TheVariants as n
use Rattle.vte_types.specs.declared.cursor.CursorShape.{CursorShape}
use Rattle.vte_types.specs.declared.cursor.CursorShape.TheVariants as shape
use Rattle.vte_types.specs.declared.cursor.CursorStyle.{CursorStyle as ShapeAndBlink}
use Rattle.vte_types.specs.Call as call
use Rattle.vte_types.specs.Call.{Call}
use Rattle.vte_types.specs.Lookup.{lookup}
use Rattle.vte_types.specs.Mode.{private_raw_of}
use Rattle.vt100_forms.specs.declared.attrs.Attrs.{Attrs}
use Rattle.vt100_forms.specs.declared.attrs.Color.{Color}
use Rattle.vt100_forms.specs.declared.attrs.Color.TheVariants.{Default, Idx, Rgb}
use Rattle.vt100_forms.specs.declared.modes.CursorStyle.{CursorStyle}
use Rattle.vt100_forms.specs.declared.modes.CursorStyle.TheVariants as style
use Rattle.vt100_forms.specs.declared.modes.MouseProtocolEncoding.{MouseProtocolEncoding}
use Rattle.vt100_forms.specs.declared.modes.MouseProtocolEncoding.TheVariants as encoding
use Rattle.vt100_forms.specs.declared.modes.MouseProtocolMode.{MouseProtocolMode}
use Rattle.vt100_forms.specs.declared.modes.MouseProtocolMode.TheVariants as mouse
use Rattle.vt100_forms.specs.Attrs.{default_attrs, with_bold, with_dim, with_normal_intensity, with_italic}
use Rattle.vt100_forms.specs.Attrs.{with_underline, with_inverse}
use Rattle.vt100_forms.specs.Form.{mouse_number, encoding_number}
use Rattle.vt100_cells.specs.Cell.{default_cell, empty_cell, is_filled}
use Rattle.terminal_model.specs.Position.{update}
use Rattle.terminal_model.specs.Term.{Size, Modes, Term}
use Rattle.terminal_model.specs.Apply.{erase, input, down, switched}

-- ---- characters

-- a character is printed, but for U+FFFD, the replacement for bytes that couldn't be decoded
unfoldable pub printed : Size → ℕ → Term → Term
printed z c t = if c == 0xFFFD then t else input z c t

-- ---- the next row

-- the row above the cursor is flagged as wrapped exactly if its last column shows something
unfoldable pub flag_above : Size → Term → Term
flag_above z t = record t {
  wrapped = update t.wrapped (t.row - 1) (is_filled (t.cell (t.row - 1) (z.cols - 1)));
}

-- ---- erasing

-- the cursor's row from the cursor on, and every row below it, are erased (ED)
unfoldable pub erase_below : Size → Term → Term
erase_below z t =
    let s = erase z z.cols t in
    record s {
      cell = (λ r k.
          if nat_lt t.row r then (if nat_lt r z.rows && nat_lt k z.cols then empty_cell t.attrs else default_cell)
          else s.cell r k);
      wrapped = (λ r. if nat_lt t.row r then false else s.wrapped r);
    }

-- ---- colours and attributes

-- the 16 named colours by their numbers, and the terminal's default colour
abbrev pub named_color : NamedColor → Option Color
named_color n.Black = Some (Idx 0)
named_color n.Red = Some (Idx 1)
named_color n.Green = Some (Idx 2)
named_color n.Yellow = Some (Idx 3)
named_color n.Blue = Some (Idx 4)
named_color n.Magenta = Some (Idx 5)
named_color n.Cyan = Some (Idx 6)
named_color n.White = Some (Idx 7)
named_color n.BrightBlack = Some (Idx 8)
named_color n.BrightRed = Some (Idx 9)
named_color n.BrightGreen = Some (Idx 10)
named_color n.BrightYellow = Some (Idx 11)
named_color n.BrightBlue = Some (Idx 12)
named_color n.BrightMagenta = Some (Idx 13)
named_color n.BrightCyan = Some (Idx 14)
named_color n.BrightWhite = Some (Idx 15)
named_color n.Foreground = Some Default
named_color n.Background = Some Default
named_color _ = None

abbrev pub color_of : NamedOrNot → Option Color
color_of (c.Named named) = named_color named
color_of (c.Spec rgb) = Some (Rgb rgb.r rgb.g rgb.b)
color_of (c.Indexed i) = Some (Idx i)

abbrev pub with_foreground : Option Color → Attrs → Attrs
with_foreground None x = x
with_foreground (Some color) x = record x { fgcolor = color }

abbrev pub with_background : Option Color → Attrs → Attrs
with_background None x = x
with_background (Some color) x = record x { bgcolor = color }

-- the drawing attributes after a change of one of them (SGR)
abbrev pub with_attr : Attr → Attrs → Attrs
with_attr a.Reset x = default_attrs
with_attr a.Bold x = with_bold x
with_attr a.Dim x = with_dim x
with_attr a.CancelBoldDim x = with_normal_intensity x
with_attr a.Italic x = with_italic true x
with_attr a.CancelItalic x = with_italic false x
with_attr a.Underline x = with_underline true x
with_attr a.CancelUnderline x = with_underline false x
with_attr a.Reverse x = with_inverse true x
with_attr a.CancelReverse x = with_inverse false x
with_attr (a.Foreground color) x = with_foreground (color_of color) x
with_attr (a.Background color) x = with_background (color_of color) x
with_attr _ x = x

-- ---- the cursor's style

-- the cursor's style with this shape, blinking or steady, if a screen has it
abbrev pub style_by : CursorShape → Bool → Option CursorStyle
style_by shape.Block true = Some style.BlinkBlock
style_by shape.Block false = Some style.SteadyBlock
style_by shape.Underline true = Some style.BlinkUnderline
style_by shape.Underline false = Some style.SteadyUnderline
style_by shape.Beam true = Some style.BlinkVerticalBar
style_by shape.Beam false = Some style.SteadyVerticalBar
style_by _ _ = None

abbrev pub style_of : Option ShapeAndBlink → Option CursorStyle
style_of None = Some style.Default
style_of (Some s) = style_by s.shape s.blinking

abbrev pub with_style : Option CursorStyle → Term → Term
with_style None t = t
with_style (Some s) t = record t { style = s }

-- ---- modes

abbrev pub with_modes : Modes → Term → Term
with_modes m t = record t { modes = m }

abbrev pub with_keypad : Bool → Term → Term
with_keypad b t = with_modes (record (t.modes) { keypad = b }) t

abbrev pub with_cursor_keys : Bool → Term → Term
with_cursor_keys b t = with_modes (record (t.modes) { cursor_keys = b }) t

abbrev pub with_paste : Bool → Term → Term
with_paste b t = with_modes (record (t.modes) { paste = b }) t

abbrev pub with_hidden : Bool → Term → Term
with_hidden b t = record t { hidden = b }

abbrev pub mouse_set : MouseProtocolMode → Term → Term
mouse_set m t = with_modes (record (t.modes) { mouse = m }) t

abbrev pub encoding_set : MouseProtocolEncoding → Term → Term
encoding_set e t = with_modes (record (t.modes) { encoding = e }) t

-- a mouse mode is reset only if it is the current one
abbrev pub mouse_reset : MouseProtocolMode → Term → Term
mouse_reset m t = mouse_set (switched mouse_number mouse.None m t.modes.mouse) t

abbrev pub encoding_reset : MouseProtocolEncoding → Term → Term
encoding_reset e t = encoding_set (switched encoding_number encoding.Default e t.modes.encoding) t

-- private modes (DECSET, DECRST; xterm's control sequences)
abbrev pub set_rows : List (ℕ × (Term → Term))
set_rows =
    (1, with_cursor_keys true) ∷ (9, mouse_set mouse.Press) ∷ (25, with_hidden false)
    ∷ (1000, mouse_set mouse.PressRelease) ∷ (1002, mouse_set mouse.ButtonMotion) ∷ (1003, mouse_set mouse.AnyMotion)
    ∷ (1005, encoding_set encoding.Utf8) ∷ (1006, encoding_set encoding.Sgr) ∷ (2004, with_paste true) ∷ []

abbrev pub reset_rows : List (ℕ × (Term → Term))
reset_rows =
    (1, with_cursor_keys false) ∷ (9, mouse_reset mouse.Press) ∷ (25, with_hidden true)
    ∷ (1000, mouse_reset mouse.PressRelease) ∷ (1002, mouse_reset mouse.ButtonMotion)
    ∷ (1003, mouse_reset mouse.AnyMotion)
    ∷ (1005, encoding_reset encoding.Utf8) ∷ (1006, encoding_reset encoding.Sgr) ∷ (2004, with_paste false) ∷ []

abbrev pub by_row : Option (Term → Term) → Term → Term
by_row None t = t
by_row (Some f) t = f t

-- the private mode with this number is set; an unknown one changes nothing
abbrev pub mode_set : ℕ → Term → Term
mode_set number t = by_row (lookup number set_rows) t

-- the private mode with this number is reset; an unknown one changes nothing
abbrev pub mode_reset : ℕ → Term → Term
mode_reset number t = by_row (lookup number reset_rows) t

-- ---- what is saved

-- the cursor and the attributes are saved
abbrev pub cursor_saved : Term → Term
cursor_saved t = record t { saved_row = t.row; saved_col = t.col; saved_attrs = t.attrs }

-- the saved cursor and attributes are restored
abbrev pub cursor_restored : Term → Term
cursor_restored t = record t { row = t.saved_row; col = t.saved_col; attrs = t.saved_attrs }

-- ---- calls

-- a negative line counts as line 0
abbrev pub line_of : ℤ → ℕ
line_of (pos r) = r
line_of (negsuc r) = 0

-- the effect of one call on a terminal of this size
unfoldable pub view_step : Size → Call → Term → Term
view_step z (call.input x) t = printed z x t
view_step z call.backspace t = record t { col = t.col - 1 }
view_step z call.carriage_return t = record t { col = 0 }
view_step z call.linefeed t = down z t
view_step z (call.goto r k) t = record t { row = min (line_of r) (z.rows - 1); col = min k (z.cols - 1) }
view_step z (call.move_forward count) t = record t { col = min (t.col + count) (z.cols - 1) }
view_step z (call.erase_chars count) t = erase z (min (t.col + count) z.cols) t
view_step z (call.clear_line line.Right) t = erase z z.cols t
view_step z (call.clear_screen screen.Below) t = erase_below z t
view_step z call.save_cursor_position t = cursor_saved t
view_step z call.restore_cursor_position t = cursor_restored t
view_step z call.set_keypad_application_mode t = with_keypad true t
view_step z call.unset_keypad_application_mode t = with_keypad false t
view_step z (call.set_cursor_style s) t = with_style (style_of s) t
view_step z (call.set_private_mode m) t = mode_set (private_raw_of m) t
view_step z (call.unset_private_mode m) t = mode_reset (private_raw_of m) t
view_step z (call.terminal_attribute x) t = record t { attrs = with_attr x t.attrs }
view_step z _ t = t

-- the effect of calls, one after another
abbrev pub view_steps : Size → List Call → Term → Term
view_steps z [] t = t
view_steps z (x ∷ xs) t = view_steps z xs (view_step z x t)
