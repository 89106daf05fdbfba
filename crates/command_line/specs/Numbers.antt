-- Numbers among the arguments of a command line.
use Rattle.std.specs.Prelude.{ℕ, Bool, nat_le, ◌&&◌, List, length, Option, Some, None, if◌then◌else◌}
use Rattle.std.specs.Str.{all_ascii_digits}
use Rattle.std.specs.Str.Parse.{digits_value}

-- 1 to n ASCII digits
abbrev pub is_number : ℕ → List ℕ → Bool
is_number n word = (nat_le 1 (length word) && nat_le (length word) n) && all_ascii_digits word

-- 1 to 5 digits with a value of 1 to 65,535
abbrev pub is_size : List ℕ → Bool
is_size word = is_number 5 word && (nat_le 1 (digits_value 10 word) && nat_le (digits_value 10 word) 65535)

abbrev pub size_in : List ℕ → Option ℕ
size_in word = if is_size word then Some (digits_value 10 word) else None

-- 1 to 9 digits
abbrev pub is_count : List ℕ → Bool
is_count = is_number 9

abbrev pub count_of : List ℕ → Option ℕ
count_of word = if is_count word then Some (digits_value 10 word) else None
