-- The rows of a capture, on a screen of n columns.
use Rattle.std.specs.Prelude.{ℕ, ◌+◌, ◌==◌, Bool, true, false, not, ◌&&◌, nat_lt, List, [], ◌∷◌, ◌++◌, map}
use Rattle.std.specs.Prelude.{encode_utf8_all, if◌then◌else◌, Option, Some, None}
use denote.Ref.{Bor}
use Rattle.std.specs.Str.{chars}
use Rattle.vt100_cells.specs.Cell.{columns_of}

-- whether a character begins a new row, if `taken` of n columns are taken. A row without columns takes any character,
-- and a character without columns joins any row.
abbrev pub passes_width : ℕ → ℕ → ℕ → Bool
passes_width n taken c = nat_lt 0 (columns_of c) && (nat_lt 0 taken && nat_lt n (taken + columns_of c))

-- The rows of some characters, after a row was begun that takes this many columns, and possibly within a control
-- sequence. A sequence goes from ESC to the next m, and takes no column. A newline ends a row, and isn't part of it.
abbrev pub rows_from : ℕ → Bool → ℕ → List ℕ → List ℕ → List (List ℕ)
rows_from n inside taken row [] = row ∷ []
rows_from n true taken row (c ∷ cs) = rows_from n (not (c == 109)) taken (row ++ c ∷ []) cs
rows_from n false taken row (c ∷ cs) =
    if c == 27 then rows_from n true taken (row ++ c ∷ []) cs
    else if c == 10 then row ∷ rows_from n false 0 [] cs
    else if passes_width n taken c then row ∷ rows_from n false (columns_of c) (c ∷ []) cs
    else rows_from n false (taken + columns_of c) (row ++ c ∷ []) cs

-- the rows of a text in UTF-8
abbrev pub capture_rows : ℕ → List ℕ → List (List ℕ)
capture_rows n bs = map encode_utf8_all (rows_from n false 0 [] (chars bs))

-- the rows of the part of a text that isn't read yet, if there is one
abbrev pub rows_left : ℕ → Option (Bor (List ℕ)) → List (List ℕ)
rows_left n None = []
rows_left n (Some text) = capture_rows n text.now
