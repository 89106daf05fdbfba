-- A caller's limit on sizes: at most this many cells.
use Rattle.std.specs.Prelude.{◌≡◌, ◌⊎◌, ℕ, ◌≤◌, ◌<◌, ◌*◌, ℤ, Option, None}
use Rattle.c_objects.specs.Codes.{too_large}
use Rattle.c_objects.specs.Words.{IsNewWord}
use Rattle.c_objects.specs.declared.object.Object.{Object}

-- a size of more cells is refused, and nothing changes; with any other the call does this
abbrev pub Within : {S : Type 0} → ℕ → ℕ → ℕ → (S → ℤ → S → Type 0) → S → ℤ → S → Type 0
Within most rows cols step x code y =
    ((most < rows * cols) × (code ≡ too_large) × (y ≡ x)) ⊎ ((rows * cols ≤ most) × step x code y)

-- a size of more cells is refused, and the word is null; with any other it is a new word
abbrev pub IsNewWithin : ℕ → (Object → Type 0) → ℕ → ℕ → ℤ → Option Object → Type 0
IsNewWithin most is rows cols code new =
    ((most < rows * cols) × (code ≡ too_large) × (new ≡ None))
    ⊎ ((rows * cols ≤ most) × IsNewWord is rows cols code new)
