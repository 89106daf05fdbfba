-- The bytes of numbers and colours.
use Rattle.std.specs.Prelude.{ℕ, ◌/◌, ◌%◌, List, [], ◌∷◌, ◌++◌, decimal}
use Rattle.picture_page.specs.declared.page.Rgb.{Rgb}
use Rattle.picture_page.specs.declared.tag.Tag.{Tag}
use Rattle.picture_page.specs.Page.{digit_byte}
use Rattle.picture_page.specs.Tags.{tag_bytes}

-- two digits of base 16
abbrev pub hexadecimal : ℕ → List ℕ
hexadecimal v = digit_byte (v / 16) ∷ digit_byte (v % 16) ∷ []

-- red, green and blue, two digits each
abbrev pub color_bytes : Rgb → List ℕ
color_bytes c = hexadecimal c.red ++ (hexadecimal c.green ++ hexadecimal c.blue)

-- pieces of markup, each with the number that follows it, in decimal
abbrev pub numbers_bytes : List (Tag × ℕ) → List ℕ
numbers_bytes [] = []
numbers_bytes (p ∷ ps) = (tag_bytes p.0 ++ decimal p.1) ++ numbers_bytes ps
