-- The places of a mark in a text.
use Rattle.std.specs.Prelude.{ℕ, Bool, true, false, List, [], ◌∷◌, ◌≡◌, ◌<◌, ◌≤◌, ◌+◌, nat_eq, drop, length}
use Rattle.std.specs.List.{starts_with}

-- the start of a synchronized update: ESC [ ? 2 0 2 6 h
abbrev pub start_mark : List ℕ
start_mark = 27 ∷ 91 ∷ 63 ∷ 50 ∷ 48 ∷ 50 ∷ 54 ∷ 104 ∷ []

-- its end: ESC [ ? 2 0 2 6 l
abbrev pub end_mark : List ℕ
end_mark = 27 ∷ 91 ∷ 63 ∷ 50 ∷ 48 ∷ 50 ∷ 54 ∷ 108 ∷ []

-- a whole mark begins at this place
abbrev pub is_found_at : List ℕ → List ℕ → ℕ → Bool
is_found_at mark text i = starts_with nat_eq (drop i text) mark

-- no mark begins at this place or later
abbrev pub NoneFrom : List ℕ → List ℕ → ℕ → Type 0
NoneFrom mark text i = (k : ℕ) → i ≤ k → k < length text → is_found_at mark text k ≡ false

-- the last mark begins here
abbrev pub IsLast : List ℕ → List ℕ → ℕ → Type 0
IsLast mark text i = (i < length text) × (is_found_at mark text i ≡ true) × NoneFrom mark text (i + 1)

-- the first mark from a place on begins here
abbrev pub IsFirstFrom : List ℕ → List ℕ → ℕ → ℕ → Type 0
IsFirstFrom mark text from i = (from ≤ i) × (i < length text) × (is_found_at mark text i ≡ true)
    × ((k : ℕ) → from ≤ k → k < i → is_found_at mark text k ≡ false)
