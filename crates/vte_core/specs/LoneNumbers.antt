-- Lone numbers: `;` alone separates them, so each is a group of its own.
use Rattle.std.specs.Prelude.{◌≡◌, ◌+◌, ◌-◌, ◌*◌, ◌<◌, ◌≤◌, ℕ, true, List, [], ◌∷◌, length, take}
use Rattle.std.specs.Int.{is_in_range}
use Rattle.vte_core.specs.Bytes.{each, is_numeric}
use Rattle.vte_core.specs.Header.{groups_of, first_numbers}
use Rattle.vte_core.specs.Store.{total}

-- the first k bytes are these numbers, at most 32, and another byte follows
pub record AreLoneNumbers (bs : List ℕ) (k : ℕ) (numbers : List (List ℕ)) : Type 0 where
  pub within : k < length bs
  pub numeric : each is_numeric (take k bs) ≡ true
  pub groups : numbers ≡ first_numbers 32 (groups_of (take k bs))
  pub few : total (groups_of (take k bs)) ≤ 32

-- the number that n becomes by these digits
abbrev pub number_by : ℕ → List ℕ → ℕ
number_by n [] = n
number_by n (d ∷ ds) = number_by (n * 10 + (d - 0x30)) ds

-- the first k bytes are digits, four at most, and make the number n
pub record IsBoundedNumber (bs : List ℕ) (n k : ℕ) : Type 0 where
  pub within : k < length bs
  pub few : k ≤ 4
  pub digits : each (is_in_range 0x30 0x39) (take k bs) ≡ true
  pub number : n ≡ number_by 0 (take k bs)
