-- Arguments that are short enough, and have digits only.
use Rattle.std.proofs.Common.{◌≡◌, ◌≤◌, ℕ, List, length, ◌&&◌, true, nat_le, arith, rules}
use Rattle.std.proofs.lemmas.Str.Parse.{IsNumeralModel, numerals_by_fold}
use Rattle.std.specs.Str.{all_ascii_digits}
use Rattle.std.specs.Str.Parse.{digits_value, digits_value_after}

pub own : IsNumeralModel (λ ds. all_ascii_digits ds ≡ true) (digits_value 10)
own = numerals_by_fold _ (search rules) (digits_value_after 10) (search rules)

pub are_digits : (n : ℕ) (word : List ℕ) → true ≡ (nat_le (length word) n && all_ascii_digits word)
    → all_ascii_digits word ≡ true
are_digits n word h = grind arith

pub are_few : (n : ℕ) (word : List ℕ) → true ≡ (nat_le (length word) n && all_ascii_digits word) → length word ≤ n
are_few n word h = grind arith
