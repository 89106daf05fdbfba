-- How cells are drawn: their styles, and the colours that these have in a look.
use Rattle.std.specs.Prelude.{ℕ, ◌+◌, ◌-◌, ◌*◌, ◌/◌, ◌%◌, ◌==◌, ◌&&◌, nat_lt, Bool, false, not, List, [], ◌∷◌, Option}
use Rattle.std.specs.Prelude.{Some, None, slice_index, slice_index_or, unwrap_or, if◌then◌else◌}
use Rattle.picture_page.specs.declared.page.Rgb.{Rgb}
use Rattle.vt100_forms.specs.Attrs.{is_bold, is_dim, is_inverse, is_italic, is_underlined}
use Rattle.vt100_forms.specs.declared.attrs.Color.{Color}
use Rattle.vt100_forms.specs.declared.attrs.Color.TheVariants as color
use Rattle.vt100_cells.specs.Cell.{CellView, default_cell}
use Rattle.row_pictures.specs.declared.look.Look.{Look}
use Rattle.row_pictures.specs.declared.style.Style.{Style}
use Rattle.row_pictures.specs.declared.theme.Theme.{Theme}
use Rattle.row_pictures.specs.Themes.{rgb_of}

-- ---- styles

abbrev pub style_of : CellView → Style
style_of x = record {
  fgcolor = x.attrs.fgcolor;
  bgcolor = x.attrs.bgcolor;
  bold = is_bold x.attrs;
  dim = is_dim x.attrs;
  italic = is_italic x.attrs;
  underline = is_underlined x.attrs;
  inverse = is_inverse x.attrs;
}

-- how an untouched cell is drawn
abbrev pub plain_style : Style
plain_style = record {
  fgcolor = color.Default;
  bgcolor = color.Default;
  bold = false;
  dim = false;
  italic = false;
  underline = false;
  inverse = false;
}

-- the cell under the cursor is inverse where it wouldn't be, and the other way round
abbrev pub is_under : Option ℕ → ℕ → Bool
is_under None col = false
is_under (Some cursor) col = cursor == col

abbrev pub turned_if : Bool → Style → Style
turned_if turned s = if turned then record s { inverse = not s.inverse } else s

abbrev pub cell_in : List CellView → ℕ → CellView
cell_in cells col = slice_index_or cells col default_cell

abbrev pub style_in : List CellView → Option ℕ → ℕ → Style
style_in cells cursor col = turned_if (is_under cursor col) (style_of (cell_in cells col))

-- ---- colours

-- how much red, green or blue the steps of the colour cube have
abbrev pub level : ℕ → ℕ
level step = slice_index (0 ∷ 95 ∷ 135 ∷ 175 ∷ 215 ∷ 255 ∷ []) step

-- a colour of the cube, which counts blue first, then green, then red
abbrev pub cube_color : ℕ → Rgb
cube_color place =
    record { red = level (place / 36 % 6); green = level (place / 6 % 6); blue = level (place % 6) }

abbrev pub grey : ℕ → Rgb
grey step = let v = 8 + 10 * step in record { red = v; green = v; blue = v }

-- one of 256 colours: sixteen of the theme, and xterm's cube of six steps a side and 24 greys
abbrev pub numbered : Theme → ℕ → Rgb
numbered theme index =
    if nat_lt index 16 then slice_index_or theme.colors index (rgb_of 0)
    else (if nat_lt index 232 then cube_color (index - 16) else grey (index - 232))

abbrev pub painted : Theme → Rgb → Color → Rgb
painted theme default color.Default = default
painted theme default (color.Idx index) = numbered theme index
painted theme default (color.Rgb r g b) = record { red = r; green = g; blue = b }

-- whether bold texts in the first eight colours have the bright ones: as it is said, or else as the theme has it
abbrev pub bright : Theme → Option Bool → Bool
bright theme said = unwrap_or said theme.bold_is_bright

-- the bright one of the first eight colours, if it is wanted
abbrev pub brightened : Bool → Color → Color
brightened bright color.Default = color.Default
brightened bright (color.Idx index) = color.Idx (if bright && nat_lt index 8 then index + 8 else index)
brightened bright (color.Rgb r g b) = color.Rgb r g b

-- the colour halfway between two
abbrev pub between : Rgb → Rgb → Rgb
between a b = record {
  red = a.red / 2 + b.red / 2;
  green = a.green / 2 + b.green / 2;
  blue = a.blue / 2 + b.blue / 2;
}

-- the colours that a style names, of texts and of their backgrounds
abbrev pub named_front : Look → Style → Rgb
named_front look s =
    painted look.theme look.theme.fgcolor (brightened (bright look.theme look.bold_is_bright && s.bold)
    s.fgcolor)

abbrev pub named_back : Look → Style → Rgb
named_back look s = painted look.theme look.theme.bgcolor s.bgcolor

-- the background of a text: inverse colours are swapped
abbrev pub back_color : Look → Style → Rgb
back_color look s = if s.inverse then named_front look s else named_back look s

abbrev pub front_color : Look → Style → Rgb
front_color look s = if s.inverse then named_back look s else named_front look s

-- the colour of a text: a dim one is halfway to the background
abbrev pub text_color : Look → Style → Rgb
text_color look s = if s.dim then between (front_color look s) (back_color look s) else front_color look s
