-- The values that C reads from a screen or a view.
use Rattle.std.specs.Prelude.{ℕ, Bool, length, replicate, encode_utf8_all, if◌then◌else◌}
use Rattle.vt100_forms.specs.declared.attrs.Color.{Color}
use Rattle.vt100_forms.specs.declared.attrs.Color.TheVariants.{Default, Idx, Rgb}
use Rattle.vt100_forms.specs.declared.modes.MouseProtocolMode.{MouseProtocolMode}
use Rattle.vt100_forms.specs.declared.modes.MouseProtocolMode.TheVariants as mouse
use Rattle.vt100_forms.specs.declared.modes.MouseProtocolEncoding.{MouseProtocolEncoding}
use Rattle.vt100_forms.specs.declared.modes.MouseProtocolEncoding.TheVariants as encoding
use Rattle.vt100_forms.specs.declared.modes.CursorStyle.{CursorStyle}
use Rattle.vt100_forms.specs.declared.modes.CursorStyle.TheVariants as style
use Rattle.vt100_cells.specs.Cell.{CellView}
use Rattle.screen_model.specs.Call.{ScreenView}
use Rattle.termview.specs.Standing.{view_size, shown_by}
use Rattle.termview.specs.declared.view.View.{View}
use Rattle.c_objects.specs.Texts.{with_prefix}
use Rattle.c_objects.specs.declared.plain.CColor.{CColor}
use Rattle.c_objects.specs.declared.plain.CCell.{CCell}
use Rattle.c_objects.specs.declared.plain.CLook.{CLook}

abbrev pub switch : Bool → ℕ
switch on = if on then 1 else 0

-- ---- cells

abbrev pub color_of : Color → CColor
color_of Default = record { kind = 0; red_or_index = 0; green = 0; blue = 0 }
color_of (Idx n) = record { kind = 1; red_or_index = n; green = 0; blue = 0 }
color_of (Rgb r g b) = record { kind = 2; red_or_index = r; green = g; blue = b }

abbrev pub width_of : CellView → ℕ
width_of x = if x.continuation then 0 else if x.wide then 2 else 1

abbrev pub cell_of : CellView → CCell
cell_of x = record {
  text = with_prefix (encode_utf8_all x.text) (replicate 32 0);
  length = length (encode_utf8_all x.text);
  width = width_of x;
  attributes = x.attrs.mode;
  reserved = 0;
  foreground = color_of x.attrs.fgcolor;
  background = color_of x.attrs.bgcolor;
}

-- ---- size, cursor and modes

abbrev pub mouse_number : MouseProtocolMode → ℕ
mouse_number mouse.None = 0
mouse_number mouse.Press = 1
mouse_number mouse.PressRelease = 2
mouse_number mouse.ButtonMotion = 3
mouse_number mouse.AnyMotion = 4

abbrev pub encoding_number : MouseProtocolEncoding → ℕ
encoding_number encoding.Default = 0
encoding_number encoding.Utf8 = 1
encoding_number encoding.Sgr = 2

-- the number of DECSCUSR
abbrev pub style_number : CursorStyle → ℕ
style_number style.Default = 0
style_number style.BlinkBlock = 1
style_number style.SteadyBlock = 2
style_number style.BlinkUnderline = 3
style_number style.SteadyUnderline = 4
style_number style.BlinkVerticalBar = 5
style_number style.SteadyVerticalBar = 6

abbrev pub screen_look : ScreenView → CLook
screen_look v = let s = v.state in record {
  kept = length s.shown.kept.rows;
  scrolled = s.shown.kept.offset;
  rows = s.shown.height;
  cols = s.shown.width;
  row = s.shown.row;
  col = s.shown.col;
  hidden = switch s.hidden;
  style = style_number s.style;
  mouse = mouse_number s.modes.mouse;
  encoding = encoding_number s.modes.encoding;
  keypad = switch s.modes.keypad;
  cursor_keys = switch s.modes.cursor_keys;
  paste = switch s.modes.paste;
  alternate = switch s.alternate;
  updating = switch s.updating;
  failed = switch v.failed;
}

abbrev pub view_look : {T : Type 0} → View T → CLook
view_look v = let t = shown_by v in record {
  kept = 0;
  scrolled = 0;
  rows = (view_size v).rows;
  cols = (view_size v).cols;
  row = t.row;
  col = t.col;
  hidden = switch t.hidden;
  style = style_number t.style;
  mouse = mouse_number t.modes.mouse;
  encoding = encoding_number t.modes.encoding;
  keypad = switch t.modes.keypad;
  cursor_keys = switch t.modes.cursor_keys;
  paste = switch t.modes.paste;
  alternate = 0;
  updating = 0;
  failed = 0;
}
