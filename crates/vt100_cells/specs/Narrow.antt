-- Characters that take one column.
use Rattle.std.specs.Prelude.{ℕ, ◌≡◌, Some}
use Rattle.std.specs.Char.{IsScalar}
use Rattle.vt100_cells.specs.Cell.{drawn_columns}

-- a character that takes one column
abbrev pub IsNarrow : ℕ → Type 0
IsNarrow c = IsScalar c × (drawn_columns c ≡ Some 1)
