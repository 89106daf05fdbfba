-- What is kept of a header.
use Rattle.std.specs.Prelude.{◌≡◌, ℕ, ◌+◌, List, [], ◌∷◌, ◌++◌, map, length, take, nat_lt, ◌==◌}
use Rattle.std.specs.List.{slice_split}
use Rattle.vte_core.specs.Header.{number, first_numbers}
use Rattle.vte_core.specs.Store.{total}
use Rattle.vte_core.specs.declared.numbers.Numbers.{Numbers}
use Rattle.vte_core.specs.declared.intermediates.Intermediates.{Intermediates}

-- the whole groups, and the whole numbers of the last one, where there are any
abbrev pub with_group : List (List ℕ) → List ℕ → List (List ℕ)
with_group gs [] = gs
with_group gs (k ∷ ks) = gs ++ (k ∷ ks) ∷ []

-- these whole groups, then these whole numbers; the first 32 of them are kept
pub record Holds (x : Numbers) (gs : List (List ℕ)) (g : List ℕ) : Type 0 where
  pub params : x.params ≡ first_numbers 32 (with_group gs g)
  pub is_open : x.is_open ≡ nat_lt 0 (length g)
  pub many : x.many ≡ nat_lt 32 (total gs + length g)

-- the digits, `:` and `;` so far are these whole groups, then these whole numbers, then this number
pub record AreNumbers (m : List ℕ) (gs : List (List ℕ)) (g : List ℕ) (n : ℕ) : Type 0 where
  pub parts : List (List ℕ)
  pub last : List ℕ
  pub last_parts : List (List ℕ)
  pub digits : List ℕ
  pub by_groups : slice_split (λ b. b == 0x3B) m ≡ parts ++ last ∷ []
  pub by_numbers : slice_split (λ b. b == 0x3A) last ≡ last_parts ++ digits ∷ []
  pub are_groups : gs ≡ map (λ p. map number (slice_split (λ b. b == 0x3A) p)) parts
  pub are_group : g ≡ map number last_parts
  pub is_number : n ≡ number digits

-- what is kept, and the last number n, represent the digits, `:` and `;` so far
abbrev pub ReadsUpTo : Numbers → ℕ → List ℕ → Type 0
ReadsUpTo x n m = (gs : List (List ℕ)) × (g : List ℕ) × AreNumbers m gs g n × Holds x gs g

abbrev pub ReadsNumbers : Numbers → List ℕ → Type 0
ReadsNumbers x m = ReadsUpTo x x.number m

-- the first two are kept
pub record KeepsTwo (x : Intermediates) (is : List ℕ) : Type 0 where
  pub kept : x.kept.items ≡ take 2 is
  pub many : x.many ≡ nat_lt 2 (length is)
