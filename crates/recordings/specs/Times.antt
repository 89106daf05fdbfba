-- Times.
use Rattle.std.specs.Prelude.{ℕ, List, Option, Some, None, option_and_then, if◌then◌else◌}
use Rattle.std.specs.Float.{float_zero, binary64, float_to_unsigned}
use Rattle.std.specs.Float.Ieee.{add, mul, lt, of_bits}
use Rattle.std.specs.Int.{w64}
use Rattle.std.specs.Str.{is_utf8}
use Rattle.serde_json.specs.Data.{Num, Data}
use Rattle.serde_json.specs.Find.{as_number, to_float}
use Rattle.serde_json.specs.Read.{read}

-- a number of seconds that isn't negative, as the nearest whole number of microseconds
abbrev pub time_of_number : Num → Option ℕ
time_of_number n =
    if lt (to_float n) float_zero then None
    else Some (float_to_unsigned w64 (add binary64 (mul binary64 (to_float n) (of_bits binary64 0x412e848000000000))
    (of_bits binary64 0x3fe0000000000000)))

abbrev pub time_of : Data → Option ℕ
time_of value = option_and_then time_of_number (as_number value)

-- the value that a text in JSON is
abbrev pub json_in : List ℕ → Option Data
json_in text = if is_utf8 text then read text else None

abbrev pub time_in : List ℕ → Option ℕ
time_in word = option_and_then time_of (json_in word)
