-- Rows as the lines of a picture.
use Rattle.std.specs.Prelude.{ℕ, Bool, List}
use Rattle.vt100_cells.specs.Cell.{CellView}
use Rattle.vt100_cells.specs.Cells.{cell_at}
use Rattle.vt100_rows.specs.Row.{RowView}
use Rattle.vt100_rows.specs.Sheet.{row_at}

-- the cell at each row and column; a default cell past the last ones
abbrev pub lines_of : List RowView → ℕ → ℕ → CellView
lines_of rows r = cell_at (row_at rows r).cells

-- whether each row goes on in the next one
abbrev pub wraps_of : List RowView → ℕ → Bool
wraps_of rows r = (row_at rows r).wrapped
