-- Lists of cells, and the lines that they are.
use Rattle.std.specs.Prelude.{ℕ, ◌≡◌, ◌≤◌, ◌<◌, suc, ◌-◌, ◌==◌, ◌&&◌, nat_lt, min, List, [], ◌∷◌, length, map}
use Rattle.std.specs.Prelude.{slice_index_or}
use Rattle.std.specs.Prelude.{if◌then◌else◌}
use Rattle.std.specs.List.{range_with_len}
use Rattle.vt100_cells.specs.Cell.{CellView, default_cell, is_default}
use Rattle.vt100_cells.specs.Line.{cut, opened}

-- the line of these cells: the cell at column k, and a default cell past the last column
abbrev pub cell_at : List CellView → ℕ → CellView
cell_at cells k = slice_index_or cells k default_cell

-- two lines have the same cells in the columns from `from` up to `to`
abbrev pub AreSame : (ℕ → CellView) → (ℕ → CellView) → ℕ → ℕ → Type 0
AreSame f g from to = (k : ℕ) → from ≤ k → k < to → f k ≡ g k

-- n cells, where the one at column k is f k
abbrev pub by_position : ℕ → (ℕ → CellView) → List CellView
by_position n f = map f (range_with_len 0 n)

abbrev pub last_cell : List CellView → CellView
last_cell cells = cell_at cells (length cells - 1)

-- default cells come in at column i, as many of the count as there are columns from there on
abbrev pub inserted_cells : List CellView → ℕ → ℕ → List CellView
inserted_cells cells i count =
    let n = min count (length cells - i) in
    if nat_lt 0 n then by_position (length cells) (cut (length cells) (opened (cell_at cells) i n)) else cells

-- how many cells there are up to the last that isn't a default cell
abbrev pub trimmed_len : List CellView → ℕ
trimmed_len [] = 0
trimmed_len (x ∷ xs) = if (trimmed_len xs == 0) && is_default x then 0 else suc (trimmed_len xs)
