use Rattle.std.proofs.Common.{◌≡◌, ℕ, ◌+◌, ◌*◌, ◌/◌, ◌%◌, ◌<◌, true, arith, refl, nat_lt}
use Rattle.std.proofs.lemmas.Bool.{lt-ltb}
use Rattle.std.proofs.lemmas.Str.{digit_value-digit_char}
use Rattle.std.specs.Char.{digit_char, digit_value}
use Rattle.vte_types.proofs.rgb.display_is_read.Goals as goal

high : (n : ℕ) → n < 256 → digit_value (digit_char (n / 16)) ≡ n / 16
high n below = digit_value-digit_char (n / 16) (omega arith)

low : (n : ℕ) → digit_value (digit_char (n % 16)) ≡ n % 16
low n = digit_value-digit_char (n % 16) (omega arith)

is_high : (n : ℕ) → n < 256 → nat_lt (n / 16) 16 ≡ true
is_high n below = lt-ltb (n / 16) 16 (omega arith)

is_low : (n : ℕ) → nat_lt (n % 16) 16 ≡ true
is_low n = lt-ltb (n % 16) 16 (omega arith)

whole : (n : ℕ) → (0 * 16 + n / 16) * 16 + n % 16 ≡ n
whole n = omega arith

pub returns : goal.returns
returns c x r g b =
    rw (
      high x.r r,
      low x.r,
      high x.g g,
      low x.g,
      high x.b b,
      low x.b,
      is_high x.r r,
      is_low x.r,
      is_high x.g g,
      is_low x.g,
      is_high x.b b,
      is_low x.b,
      whole x.r,
      whole x.g,
      whole x.b,
    ) refl
