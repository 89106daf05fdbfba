-- Lists cut at a byte.
use Rattle.std.specs.Prelude.{ℕ, List, [], Option, Some, None, ◌==◌}
use Rattle.std.specs.List.{slice_split}

-- the parts of what follows a cut
abbrev pub parts_after : ℕ → Option (List ℕ) → List (List ℕ)
parts_after byte None = []
parts_after byte (Some rest) = slice_split (λ c. c == byte) rest
