-- How much of a row a picture in SVG writes: up to its last cell that shows something.
use Rattle.std.specs.Prelude.{ℕ, zero, suc, ◌&&◌, ◌||◌, Bool, true, false, not, List, codes, encode_utf8_all, length}
use Rattle.std.specs.Prelude.{take, Option, if◌then◌else◌}
use Rattle.std.specs.Str.{bytes_eq}
use Rattle.vt100_forms.specs.declared.attrs.Color.{Color}
use Rattle.vt100_forms.specs.declared.attrs.Color.TheVariants.{Default, Idx, Rgb}
use Rattle.vt100_cells.specs.Cell.{CellView, has_text}
use Rattle.row_pictures.specs.Paint.{cell_in, style_in}
use Rattle.row_pictures.specs.declared.style.Style.{Style}

abbrev pub has_color : Color → Bool
has_color Default = false
has_color (Idx i) = true
has_color (Rgb r g b) = true

-- a space in this style shows: it has a background colour, or is inverse or underlined
abbrev pub shows_on_spaces : Style → Bool
shows_on_spaces s = (has_color s.bgcolor || s.inverse) || s.underline

-- a cell has a text other than a space; the second column of a wide character counts as one that has
abbrev pub has_ink : CellView → Bool
has_ink x = (has_text x && not (bytes_eq (encode_utf8_all x.text) (codes " "))) || x.continuation

-- the cell in this column shows something; under the cursor its style is the one that it has there
abbrev pub shows_at : List CellView → Option ℕ → ℕ → Bool
shows_at cells cursor col = has_ink (cell_in cells col) || shows_on_spaces (style_in cells cursor col)

-- of the first n cells, how many there are up to the last one that shows something
abbrev pub unpadded_columns : List CellView → Option ℕ → ℕ → ℕ
unpadded_columns cells cursor zero = zero
unpadded_columns cells cursor (suc n) =
    if shows_at cells cursor n then suc n else unpadded_columns cells cursor n

-- the cells of a row up to the last one that shows something
abbrev pub unpadded : List CellView → Option ℕ → List CellView
unpadded cells cursor = take (unpadded_columns cells cursor (length cells)) cells
