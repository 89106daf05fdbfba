-- A row's text with its attributes, in the basic format of a capture: no control sequences but SGR.
use Rattle.std.specs.Prelude.{ℕ, zero, suc, List, [], ◌∷◌, ◌++◌, ◌||◌, encode_utf8_all, if◌then◌else◌}
use Rattle.vt100_forms.specs.declared.attrs.Attrs.{Attrs}
use Rattle.vt100_forms.specs.Form.{bytes_of, change}
use Rattle.vt100_cells.specs.Cell.{CellView, has_text, is_default}
use Rattle.vt100_cells.specs.Cells.{cell_at, trimmed_len}
use Rattle.vt100_rows.specs.Row.{RowView}

-- what a cell shows of itself, where the attributes a are set before it: first the form that changes them, and then
-- its text, or a space where it has none. A default cell is a space in whatever attributes are set, and the second half
-- of a wide character is nothing.
abbrev pub basic_cell : Attrs → CellView → List ℕ
basic_cell a x =
    if x.continuation then []
    else if is_default x then 32 ∷ []
    else bytes_of (change a x.attrs) ++ encode_utf8_all (if has_text x then x.text else 32 ∷ [])

-- the attributes that are set after a cell
abbrev pub attrs_after : Attrs → CellView → Attrs
attrs_after a x = if x.continuation || is_default x then a else x.attrs

-- the same after the first n columns
abbrev pub basic_attrs : (ℕ → CellView) → Attrs → ℕ → Attrs
basic_attrs f a zero = a
basic_attrs f a (suc n) = attrs_after (basic_attrs f a n) (f n)

-- the text of the first n columns
abbrev pub basic_columns : (ℕ → CellView) → Attrs → ℕ → List ℕ
basic_columns f a zero = []
basic_columns f a (suc n) = basic_columns f a n ++ basic_cell (basic_attrs f a n) (f n)

-- the text of a row up to its last cell that isn't a default cell
abbrev pub basic_text : RowView → Attrs → List ℕ
basic_text v a = basic_columns (cell_at v.cells) a (trimmed_len v.cells)

-- and the attributes that are set after it
abbrev pub attrs_after_row : RowView → Attrs → Attrs
attrs_after_row v a = basic_attrs (cell_at v.cells) a (trimmed_len v.cells)
