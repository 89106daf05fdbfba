-- The attributes of a character, and what each setter changes in them.
use Rattle.std.specs.Prelude.{◌≡◌, ℕ, ◌^◌, ◌<◌, Bool, true, false, not, ◌&&◌, ◌==◌, List, [], ◌∷◌, bit_and, bit_or}
use Rattle.vt100_forms.specs.declared.attrs.Color.{Color}
use Rattle.vt100_forms.specs.declared.attrs.Color.TheVariants.{Default, Idx, Rgb}
use Rattle.vt100_forms.specs.declared.attrs.Attrs.{Attrs}

-- default colours, and no mode
abbrev pub default_attrs : Attrs
default_attrs = record { fgcolor = Default; bgcolor = Default; mode = 0 }

-- whether two colours, or two attributes, are equal: what `==` returns
abbrev pub color_eq : Color → Color → Bool
color_eq Default Default = true
color_eq (Idx i) (Idx j) = i == j
color_eq (Rgb r g b) (Rgb s h c) = (r == s) && ((g == h) && (b == c))
color_eq _ _ = false

abbrev pub attrs_eq : Attrs → Attrs → Bool
attrs_eq a b = color_eq a.fgcolor b.fgcolor && (color_eq a.bgcolor b.bgcolor && (a.mode == b.mode))

-- the bits of the mode: bold 1, dim 2, italic 4, underlined 8, inverse 16
abbrev pub is_bold : Attrs → Bool
is_bold a = not (bit_and a.mode 1 == 0)

abbrev pub is_dim : Attrs → Bool
is_dim a = not (bit_and a.mode 2 == 0)

abbrev pub is_italic : Attrs → Bool
is_italic a = not (bit_and a.mode 4 == 0)

abbrev pub is_underlined : Attrs → Bool
is_underlined a = not (bit_and a.mode 8 == 0)

abbrev pub is_inverse : Attrs → Bool
is_inverse a = not (bit_and a.mode 16 == 0)

-- the attributes with another mode
abbrev pub with_mode : Attrs → ℕ → Attrs
with_mode a m = record { fgcolor = a.fgcolor; bgcolor = a.bgcolor; mode = m }

-- 252 is every bit of a byte but those of bold and dim
abbrev pub with_normal_intensity : Attrs → Attrs
with_normal_intensity a = with_mode a (bit_and a.mode 252)

abbrev pub with_bold : Attrs → Attrs
with_bold a = with_mode a (bit_or (bit_and a.mode 252) 1)

abbrev pub with_dim : Attrs → Attrs
with_dim a = with_mode a (bit_or (bit_and a.mode 252) 2)

-- one bit is set, or cleared by the mask of all others
abbrev pub with_italic : Bool → Attrs → Attrs
with_italic true a = with_mode a (bit_or a.mode 4)
with_italic false a = with_mode a (bit_and a.mode 251)

abbrev pub with_underline : Bool → Attrs → Attrs
with_underline true a = with_mode a (bit_or a.mode 8)
with_underline false a = with_mode a (bit_and a.mode 247)

abbrev pub with_inverse : Bool → Attrs → Attrs
with_inverse true a = with_mode a (bit_or a.mode 16)
with_inverse false a = with_mode a (bit_and a.mode 239)

-- the numbers of a colour are bytes
abbrev pub IsByteColor : Color → Type 0
IsByteColor Default = Unit {0}
IsByteColor (Idx i) = i < 2 ^ 8
IsByteColor (Rgb r g b) = (r < 2 ^ 8) × (g < 2 ^ 8) × (b < 2 ^ 8)

abbrev pub HasByteColors : Attrs → Type 0
HasByteColors a = IsByteColor a.fgcolor × IsByteColor a.bgcolor

-- attributes that SGR can set: no bit without a meaning, not both bold and dim, and bytes as colour numbers
pub record IsProper (a : Attrs) : Type 0 where
  pub small : a.mode < 32
  pub one : (is_bold a && is_dim a) ≡ false
  pub colors : HasByteColors a

-- bold, dim, italic, underlined and inverse
abbrev pub flags_of : Attrs → List Bool
flags_of a = is_bold a ∷ is_dim a ∷ is_italic a ∷ is_underlined a ∷ is_inverse a ∷ []

-- each setter sets the flag that its name says, and leaves the others
pub record SettersAreRead (a : Attrs) : Type 0 where
  pub bold : flags_of (with_bold a) ≡ true ∷ false ∷ is_italic a ∷ is_underlined a ∷ is_inverse a ∷ []
  pub dim : flags_of (with_dim a) ≡ false ∷ true ∷ is_italic a ∷ is_underlined a ∷ is_inverse a ∷ []
  pub normal : flags_of (with_normal_intensity a) ≡ false ∷ false ∷ is_italic a ∷ is_underlined a ∷ is_inverse a ∷ []
  pub italic : (b : Bool) → flags_of (with_italic b a) ≡ is_bold a ∷ is_dim a ∷ b ∷ is_underlined a ∷ is_inverse a ∷ []
  pub underline : (b : Bool) → flags_of (with_underline b a) ≡ is_bold a ∷ is_dim a ∷ is_italic a ∷ b ∷ is_inverse a
      ∷ []
  pub inverse : (b : Bool) → flags_of (with_inverse b a) ≡ is_bold a ∷ is_dim a ∷ is_italic a ∷ is_underlined a ∷ b ∷ []

-- each setter keeps attributes proper
pub record SettersKeepProper (a : Attrs) : Type 0 where
  pub bold : IsProper (with_bold a)
  pub dim : IsProper (with_dim a)
  pub normal : IsProper (with_normal_intensity a)
  pub italic : (b : Bool) → IsProper (with_italic b a)
  pub underline : (b : Bool) → IsProper (with_underline b a)
  pub inverse : (b : Bool) → IsProper (with_inverse b a)

abbrev pub EachSetterIsRead : Type 0
EachSetterIsRead = (a : Attrs) → a.mode < 2 ^ 8 → SettersAreRead a

abbrev pub EachSetterKeepsProper : Type 0
EachSetterKeepsProper = (a : Attrs) → IsProper a → SettersKeepProper a
