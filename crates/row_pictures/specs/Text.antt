-- The texts of cells as pictures have them.
use Rattle.std.specs.Prelude.{ℕ, ◌==◌, ◌||◌, List, [], ◌∷◌, encode_utf8, if◌then◌else◌}
use Rattle.std.specs.List.{flat_map}
use Rattle.vt100_cells.specs.Cell.{CellView, has_text}

-- U+FFFE and U+FFFF, which XML doesn't allow, become U+FFFD
abbrev pub shown_character : ℕ → ℕ
shown_character c = if c == 0xFFFE || c == 0xFFFF then 0xFFFD else c

abbrev pub shown_characters : List ℕ → List ℕ
shown_characters cs = flat_map (λ c. encode_utf8 (shown_character c)) cs

-- the second column of a wide character has none, and an empty cell a space
abbrev pub cell_text : CellView → List ℕ
cell_text x = if x.continuation then [] else (if has_text x then shown_characters x.text else 32 ∷ [])

abbrev pub row_text : List CellView → List ℕ
row_text cells = flat_map cell_text cells
