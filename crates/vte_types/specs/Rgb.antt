-- Colours by red, green and blue.
use Rattle.std.specs.Prelude.{◌≡◌, ℕ, ◌+◌, ◌-◌, ◌/◌, ◌%◌, ◌<◌, min, List, ◌∷◌, [], ◌++◌, Option, Some, None, Result, Ok}
use Rattle.std.specs.Prelude.{Err, length, take, drop, nat_eq, ◌==◌, ◌&&◌, if◌then◌else◌, codes}
use Rattle.std.specs.List.{starts_with}
use Rattle.std.specs.Char.{digit_char}
use Rattle.vte_types.specs.Hex.{are_hex, hex_value}
use Rattle.vte_types.specs.declared.rgb.Rgb.{Rgb}

-- sums and differences, each part limited to 0 to 255
abbrev pub rgb_sum : Rgb → Rgb → Rgb
rgb_sum x y = record { r = min (x.r + y.r) 255; g = min (x.g + y.g) 255; b = min (x.b + y.b) 255 }

abbrev pub rgb_difference : Rgb → Rgb → Rgb
rgb_difference x y = record { r = x.r - y.r; g = x.g - y.g; b = x.b - y.b }

-- the text of a colour: `#` and two digits a part
abbrev pub two_digits : ℕ → List ℕ
two_digits n = digit_char (n / 16) ∷ digit_char (n % 16) ∷ []

abbrev pub rgb_text : Rgb → List ℕ
rgb_text x = codes "#" ++ (two_digits x.r ++ (two_digits x.g ++ two_digits x.b))

-- the colour of a text: `#` or `0x`, and six hexadecimal digits
abbrev pub six_digits : List ℕ → Option Rgb
six_digits ds =
    if length ds == 6 && are_hex ds
    then Some (record {
      r = hex_value (take 2 ds);
      g = hex_value (take 2 (drop 2 ds));
      b = hex_value (take 2 (drop 4 ds));
    })
    else None

abbrev pub or_refused : Option Rgb → Result Rgb (Unit {0})
or_refused None = Err tt
or_refused (Some x) = Ok x

abbrev pub rgb_read : List ℕ → Result Rgb (Unit {0})
rgb_read text = or_refused (
    if starts_with nat_eq text (codes "#") then six_digits (drop 1 text) else
    (if starts_with nat_eq text (codes "0x") then six_digits (drop 2 text) else None))

-- reading a displayed colour gives the same colour
abbrev pub DisplayIsRead : Type 0
DisplayIsRead = (x : Rgb) → x.r < 256 → x.g < 256 → x.b < 256 → rgb_read (rgb_text x) ≡ Ok x
