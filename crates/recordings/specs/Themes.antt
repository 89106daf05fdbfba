-- The colours that a recording has of its own.
use Rattle.std.specs.Prelude.{ℕ, ◌==◌, ◌&&◌, Bool, List, [], ◌∷◌, ◌++◌, drop, take, length, slice_index, Option, Some}
use Rattle.std.specs.Prelude.{None, option_and_then, if◌then◌else◌, codes}
use Rattle.std.specs.Char.{is_digit}
use Rattle.std.specs.List.{list_all, slice_split}
use Rattle.std.specs.Option.{option_map, option_or}
use Rattle.std.specs.Str.Parse.{digits_value}
use Rattle.serde_json.specs.Data.{Data}
use Rattle.serde_json.specs.Find.{as_str, get}
use Rattle.recordings.specs.declared.theme.RecordedTheme.{RecordedTheme}

-- `#RRGGBB`
abbrev pub is_color : List ℕ → Bool
is_color word = (length word == 7 && slice_index word 0 == 0x23) && list_all (λ b. is_digit b 16) (drop 1 word)

abbrev pub color_in : List ℕ → Option ℕ
color_in word = if is_color word then Some (digits_value 16 (drop 1 word)) else None

-- a colour a word
abbrev pub colors_in : List (List ℕ) → Option (List ℕ)
colors_in [] = Some []
colors_in (word ∷ words) = option_and_then (λ color. option_map (λ colors. color ∷ colors) (colors_in words))
    (color_in word)

-- the first sixteen colours, or eight that are those of the bright ones too
abbrev pub palette_of : List ℕ → Option (List ℕ)
palette_of colors =
    if length colors == 16 then Some colors
    else (if length colors == 8 then Some (colors ++ colors) else None)

-- between colons; what follows the sixteenth is ignored
abbrev pub palette_in : List ℕ → Option (List ℕ)
palette_in text = option_and_then palette_of (colors_in (take 16 (slice_split (λ b. b == 0x3a) text)))

abbrev pub text_at : List ℕ → Data → Option (List ℕ)
text_at name json = option_and_then as_str (get name json)

-- the colour of texts, that of backgrounds, and the palette
abbrev pub theme_of : Data → Option (List ℕ)
theme_of json =
    option_and_then (λ palette. option_and_then (λ text. option_map (λ back. text ∷ back ∷ palette)
    (option_and_then color_in (text_at (codes "bg") json))) (option_and_then color_in (text_at (codes "fg") json)))
    (option_and_then palette_in (text_at (codes "palette") json))

-- the header's `theme`, or else that in its `term`
abbrev pub theme_in : Data → Option (List ℕ)
theme_in json = option_and_then theme_of (option_or (get (codes "theme") json) (option_and_then (get (codes "theme"))
    (get (codes "term") json)))

abbrev pub theme_reported : Option RecordedTheme → Option (List ℕ)
theme_reported = option_map (λ theme. theme.colors)
