-- Which cells a picture in SVG draws with rectangles, and which in a font.
use Rattle.std.specs.Prelude.{ℕ, ◌-◌, ◌==◌, ◌&&◌, Bool, is_some, nat_le, List, [], ◌∷◌, map, slice_index_or}
use Rattle.std.specs.Prelude.{Option, Some, None, if◌then◌else◌}
use Rattle.std.specs.List.{flat_map}
use Rattle.std.specs.Option.{option_map_or}
use Rattle.vt100_cells.specs.Cell.{CellView}
use Rattle.row_pictures.specs.Text.{cell_text}
use Rattle.row_pictures.specs.declared.glyph.Ink.{Ink}
use Rattle.row_pictures.specs.declared.glyph.Ink.TheVariants.{Font, Shade, Solid}
use Rattle.row_pictures.specs.declared.glyphs.TheConstants.{GLYPHS}

-- a line drawing or block character
abbrev pub is_drawn_character : ℕ → Bool
is_drawn_character c = nat_le 0x2500 c && nat_le c 0x259F

abbrev pub drawn_text : List ℕ → Option ℕ
drawn_text (c ∷ []) = if is_drawn_character c then Some c else None
drawn_text _ = None

-- the line drawing or block character that a cell has and nothing else
abbrev pub drawn_character : CellView → Option ℕ
drawn_character x = drawn_text x.text

-- a cell that is drawn with rectangles
abbrev pub is_drawn : CellView → Bool
is_drawn x = is_some (drawn_character x)

-- the text of a cell that comes in a font
abbrev pub font_text : CellView → List ℕ
font_text x = if is_drawn x then [] else cell_text x

-- the texts of a row that come in a font
abbrev pub font_texts : List CellView → List ℕ
font_texts cells = flat_map font_text cells

-- Three of these characters are shades, with an opacity in hundredths. The others are solid.
abbrev pub ink_of_character : ℕ → Ink
ink_of_character c =
    if c == 0x2591 then Shade 25 else (if c == 0x2592 then Shade 50 else (if c == 0x2593 then Shade 75 else Solid))

-- what a cell is drawn with
abbrev pub ink_of : CellView → Ink
ink_of x = option_map_or ink_of_character (drawn_character x) Font

-- the rectangles of the character this far after U+2500: the left and the top of each, its width and its height
abbrev pub glyph_areas : ℕ → List (ℕ × ℕ × ℕ × ℕ)
glyph_areas place = slice_index_or (map (λ areas. areas.now) GLYPHS) place []

-- those of a cell
abbrev pub areas_of : CellView → List (ℕ × ℕ × ℕ × ℕ)
areas_of x = option_map_or (λ c. glyph_areas (c - 0x2500)) (drawn_character x) []
