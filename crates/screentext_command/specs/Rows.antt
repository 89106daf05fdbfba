-- A row of cells as text.
use Rattle.std.specs.Prelude.{ℕ, zero, suc, ◌&&◌, ◌||◌, Bool, true, false, not, List, [], ◌∷◌, ◌++◌, codes}
use Rattle.std.specs.Prelude.{encode_utf8_all, length, take, if◌then◌else◌}
use Rattle.std.specs.List.{flat_map}
use Rattle.std.specs.Str.{bytes_eq}
use Rattle.vt100_forms.specs.Attrs.{default_attrs, is_inverse, is_underlined}
use Rattle.vt100_forms.specs.Form.{bytes_of, change}
use Rattle.vt100_forms.specs.declared.attrs.Attrs.{Attrs}
use Rattle.vt100_forms.specs.declared.attrs.Color.{Color}
use Rattle.vt100_forms.specs.declared.attrs.Color.TheVariants.{Default, Idx, Rgb}
use Rattle.vt100_cells.specs.Cell.{CellView, has_text}
use Rattle.vt100_cells.specs.Cells.{cell_at}
use Rattle.vt100_rows.specs.Text.{cell_text}
use Rattle.screentext_command.specs.declared.rows.Look.{Look}

-- the text of a cell: a space where it is empty, and nothing for the second column of a wide one
abbrev pub text_of : CellView → List ℕ
text_of x = encode_utf8_all (cell_text x false)

-- whether a colour is other than the terminal's own
abbrev pub has_color : Color → Bool
has_color Default = false
has_color (Idx i) = true
has_color (Rgb r g b) = true

-- a blank cell with these attributes looks other than an untouched one
abbrev pub shows_on_blanks : Attrs → Bool
shows_on_blanks a = (has_color a.bgcolor || is_inverse a) || is_underlined a

-- whether a cell is more than a blank at a row's end
abbrev pub is_shown : Look → CellView → Bool
is_shown look x = ((has_text x && (look.joined || not (bytes_eq (encode_utf8_all x.text) (codes " "))))
    || x.continuation) || (look.colors && shows_on_blanks x.attrs)

-- of the first n cells, how many are left without the blanks at the end
abbrev pub shown_columns : Look → List CellView → ℕ → ℕ
shown_columns look cells zero = zero
shown_columns look cells (suc n) = if is_shown look (cell_at cells n) then suc n else shown_columns look cells n

-- the cells without the blanks at the end
abbrev pub shown_cells : Look → List CellView → List CellView
shown_cells look cells = take (shown_columns look cells (length cells)) cells

-- what takes a terminal from attributes to others
abbrev pub changed : Attrs → Attrs → List ℕ
changed from to = bytes_of (change from to)

-- where these attributes are set: what takes a terminal to those of a text comes before it, and what takes it to the
-- default ones is at the end
abbrev pub colored_text : Attrs → List CellView → List ℕ
colored_text attrs [] = changed attrs default_attrs
colored_text attrs (x ∷ xs) = changed attrs x.attrs ++ (text_of x ++ colored_text x.attrs xs)

abbrev pub plain_text : List CellView → List ℕ
plain_text cells = flat_map text_of cells

abbrev pub row_text : Look → List CellView → List ℕ
row_text look cells = if look.colors then colored_text default_attrs (shown_cells look cells)
    else plain_text (shown_cells look cells)
