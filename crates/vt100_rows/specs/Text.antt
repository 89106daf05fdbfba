-- The text that a row shows.
use Rattle.std.specs.Prelude.{ℕ, zero, suc, ◌+◌, ◌-◌, ◌==◌, Bool, not, ◌&&◌, min, List, [], ◌∷◌, ◌++◌, length}
use Rattle.std.specs.Prelude.{if◌then◌else◌}
use Rattle.vt100_cells.specs.Cell.{CellView, has_text}
use Rattle.vt100_cells.specs.Cells.{cell_at}
use Rattle.vt100_rows.specs.Row.{RowView}

-- A cell's part of a text: its own text, or a space if it is empty. The second half of a wide character has no text; as
-- the first cell of the text it counts as empty.
abbrev pub cell_text : CellView → Bool → List ℕ
cell_text x is_first = if has_text x then x.text else if x.continuation && not is_first then [] else 32 ∷ []

-- what column k shows in a text from column s on
abbrev pub column_text : (ℕ → CellView) → ℕ → ℕ → List ℕ
column_text f s k = cell_text (f k) (k == s)

-- what n columns from s on show
abbrev pub columns_text : (ℕ → CellView) → ℕ → ℕ → List ℕ
columns_text f s zero = []
columns_text f s (suc n) = columns_text f s n ++ column_text f s (s + n)

-- the same up to the last column that has a text
abbrev pub line_text : (ℕ → CellView) → ℕ → ℕ → List ℕ
line_text f s zero = []
line_text f s (suc n) = if has_text (f (s + n)) then columns_text f s (suc n) else line_text f s n

-- the text of the row's columns from s up to e
abbrev pub row_text : RowView → ℕ → ℕ → List ℕ
row_text v s e = line_text (cell_at v.cells) s (min e (length v.cells) - s)

-- what is written of n columns from s on; where they show no text below a wrapped row, a newline takes its place
abbrev pub written_text : RowView → ℕ → ℕ → Bool → List ℕ
written_text v s n wrapping = if wrapping && (length (row_text v s (s + n)) == 0) then 10 ∷ [] else row_text v s (s + n)
