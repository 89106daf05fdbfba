-- Tables of keys and values.
use Rattle.std.specs.Prelude.{ℕ, List, [], ◌∷◌, Option, Some, None, nat_eq, if◌then◌else◌}

-- the value of a key in a table, in the first row with that key
abbrev pub lookup : {X : Type 0} → ℕ → List (ℕ × X) → Option X
lookup key [] = None
lookup key (row ∷ rows) = if nat_eq key row.0 then Some row.1 else lookup key rows
