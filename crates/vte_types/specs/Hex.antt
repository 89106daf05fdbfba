-- Hexadecimal numbers.
use Rattle.std.specs.Prelude.{ℕ, ◌+◌, ◌*◌, Bool, List, Option, Some, None, if◌then◌else◌}
use Rattle.std.specs.List.{list_all, fold}
use Rattle.std.specs.Char.{is_digit, digit_value}

-- all are hexadecimal digits, in either case
abbrev pub are_hex : List ℕ → Bool
are_hex ds = list_all (λ d. is_digit d 16) ds

-- the value of hexadecimal digits
abbrev pub hex_value : List ℕ → ℕ
hex_value ds = fold (λ n d. n * 16 + digit_value d) 0 ds

-- their value, if all bytes are such digits
abbrev pub hex_number : List ℕ → Option ℕ
hex_number ds = if are_hex ds then Some (hex_value ds) else None
