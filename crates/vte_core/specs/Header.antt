-- The header of a CSI or a device string: the bytes 0x20 to 0x3F between the introducer and the final byte.
use Rattle.std.specs.Prelude.{ℕ, zero, suc, ◌+◌, ◌-◌, ◌*◌, min, Bool, true, not, ◌&&◌, ◌||◌, List, [], ◌∷◌, map, length}
use Rattle.std.specs.Prelude.{take, nat_lt, ◌==◌, if◌then◌else◌}
use Rattle.std.specs.List.{filter, slice_split, concat, fold}
use Rattle.vte_core.specs.Bytes.{is_intermediate, is_numeric, is_private}

-- the header without the private byte that may come first
abbrev pub unmarked : List ℕ → List ℕ
unmarked [] = []
unmarked (b ∷ bs) = if is_private b then bs else b ∷ bs

abbrev pub only_intermediates : List ℕ → Bool
only_intermediates [] = true
only_intermediates (b ∷ bs) = is_intermediate b && only_intermediates bs

-- no number comes after an intermediate, and a private byte comes only first
abbrev pub in_order : List ℕ → Bool
in_order [] = true
in_order (b ∷ bs) = if is_numeric b then in_order bs else only_intermediates (b ∷ bs)

abbrev pub is_well_formed : List ℕ → Bool
is_well_formed h = in_order (unmarked h)

-- the value of the digits
abbrev pub number : List ℕ → ℕ
number ds = fold (λ n d. min 65535 (n * 10 + (d - 0x30))) 0 ds

-- the numbers in their groups: cut at `;`, and each group at `:`
abbrev pub groups_of : List ℕ → List (List ℕ)
groups_of m = map (λ p. map number (slice_split (λ b. b == 0x3A) p)) (slice_split (λ b. b == 0x3B) m)

abbrev pub groups : List ℕ → List (List ℕ)
groups h = groups_of (filter is_numeric h)

-- the first n numbers, in their groups
abbrev pub first_numbers : ℕ → List (List ℕ) → List (List ℕ)
first_numbers zero gs = []
first_numbers (suc n) [] = []
first_numbers (suc n) (g ∷ gs) = take (suc n) g ∷ first_numbers (suc n - length g) gs

abbrev pub intermediates : List ℕ → List ℕ
intermediates h = filter (λ b. not (is_numeric b)) h

-- more numbers or intermediates than are kept
abbrev pub overflows : List ℕ → Bool
overflows h = nat_lt 32 (length (concat (groups h))) || nat_lt 2 (length (intermediates h))

abbrev pub kept_groups : List ℕ → List (List ℕ)
kept_groups h = first_numbers 32 (groups h)

abbrev pub kept_intermediates : List ℕ → List ℕ
kept_intermediates h = take 2 (intermediates h)
