-- The groups of an SGR, one after another.
use Rattle.std.specs.Prelude.{ℕ, Bool, true, false, List, [], ◌∷◌, ◌++◌, if◌then◌else◌, codes}
use Rattle.vte_core.specs.ParamsText.{group_text}

abbrev pub has_some : List (List ℕ) → Bool
has_some [] = false
has_some (g ∷ gs) = true

-- the bytes before a group: `;` after other groups, else the start of the sequence
abbrev pub lead : Bool → List ℕ
lead some = if some then codes ";" else 0x1B ∷ codes "["

-- the text of the first group, if there is one, after others or as the first of an SGR
abbrev pub first_text : Bool → List (List ℕ) → List ℕ
first_text some [] = []
first_text some (g ∷ gs) = lead some ++ group_text g
