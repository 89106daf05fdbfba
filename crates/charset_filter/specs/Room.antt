-- Appending if there is room.
use Rattle.std.specs.Prelude.{◌≡◌, ℕ, ◌+◌, ◌≤◌, List, ◌++◌, length}

-- the bytes are appended, if there are at most 252 in all after that
abbrev pub Appends : List ℕ → List ℕ → List ℕ → Type 0
Appends old bytes new = length old + length bytes ≤ 252 → new ≡ old ++ bytes
