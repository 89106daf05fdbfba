-- What a contract sees of a cell, what is true of every cell, and the cells that edits make.
use Rattle.std.specs.Prelude.{ℕ, ◌≡◌, ◌<◌, ◌≤◌, ◌==◌, ◌⊎◌, Bool, true, false, not, List, [], ◌∷◌, ◌++◌, length, take}
use Rattle.std.specs.Prelude.{min, Option, Some, None, is_none, unwrap_or, nat_eq, nat_lt, if◌then◌else◌, ◌&&◌, ◌||◌}
use Rattle.std.specs.Prelude.{encode_utf8_all, All, Contains}
use Rattle.std.specs.Char.{IsScalar}
use lib.Pointwise.{pointwise}
use Rattle.vt100_forms.specs.declared.attrs.Attrs.{Attrs}
use Rattle.vt100_forms.specs.Attrs.{default_attrs, attrs_eq}
use Rattle.unicode_width.specs.Width.{char_width, str_width}

-- the characters; whether they take two columns; whether this is the second column of the cell before it; how it is
-- drawn
pub record CellView : Type 0 where
  pub text : List ℕ
  pub wide : Bool
  pub continuation : Bool
  pub attrs : Attrs

-- ---- the columns of a character

-- how many columns a character takes: its Unicode width, but at most 2, and 1 where Unicode gives none
abbrev pub columns_of : ℕ → ℕ
columns_of c = min 2 (unwrap_or (char_width false c) 1)

-- control characters below U+0100, which are never drawn
abbrev pub is_undrawable : ℕ → Bool
is_undrawable c = is_none (char_width false c) && nat_lt c 0x100

-- the columns of a character that is drawn
abbrev pub drawn_columns : ℕ → Option ℕ
drawn_columns c = if is_undrawable c then None else Some (columns_of c)

-- a character that takes two columns
abbrev pub IsWide : ℕ → Type 0
IsWide c = drawn_columns c ≡ Some 2

-- ---- cells

-- an empty cell with these attributes
abbrev pub empty_cell : Attrs → CellView
empty_cell a = record { text = []; wide = false; continuation = false; attrs = a }

abbrev pub default_cell : CellView
default_cell = empty_cell default_attrs

-- the second column of a wide character
abbrev pub continuation_cell : CellView
continuation_cell = record { text = []; wide = false; continuation = true; attrs = default_attrs }

-- a cell that holds one character
abbrev pub cell_of : ℕ → Attrs → CellView
cell_of c a = record { text = c ∷ []; wide = columns_of c == 2; continuation = false; attrs = a }

abbrev pub has_text : CellView → Bool
has_text x = not (length x.text == 0)

-- whether a cell shows something: it has a text, or it is the second column of one that has
abbrev pub is_filled : CellView → Bool
is_filled x = has_text x || x.continuation

-- ---- a zero-width character joins a cell

-- the text with one more character, where an empty text first gets a space
abbrev pub text_with : List ℕ → ℕ → List ℕ
text_with [] c = 32 ∷ c ∷ []
text_with (x ∷ xs) c = (x ∷ xs) ++ c ∷ []

-- whether U+FE0F, which asks for an emoji, makes a text of two columns
abbrev pub is_widened_by : List ℕ → ℕ → Bool
is_widened_by cs c = (c == 0xFE0F) && nat_lt 1 (str_width false (text_with cs c))

-- whether a text has room for one more character: it takes fewer than 18 bytes
abbrev pub has_room : List ℕ → Bool
has_room cs = nat_lt (length (encode_utf8_all cs)) 18

-- a cell with one more zero-width character, which is dropped where there is no room
abbrev pub appended : CellView → ℕ → CellView
appended x c =
    if has_room x.text
    then record {
      text = text_with x.text c;
      wide = x.wide || is_widened_by x.text c;
      continuation = x.continuation;
      attrs = x.attrs;
    }
    else x

-- the same where U+FE0F widens nothing
abbrev pub appended_in_place : CellView → ℕ → CellView
appended_in_place x c =
    if has_room x.text
    then record { text = text_with x.text c; wide = x.wide; continuation = x.continuation; attrs = x.attrs }
    else x

-- the same for these characters, one after the other
abbrev pub all_appended : CellView → List ℕ → CellView
all_appended x [] = x
all_appended x (c ∷ cs) = all_appended (appended_in_place x c) cs

-- ---- what is true of every cell

-- nothing, or a drawn character that takes columns and then some that take none
abbrev pub IsCellText : List ℕ → Type 0
IsCellText [] = Unit {0}
IsCellText (c ∷ cs) = (is_undrawable c ≡ false) × (0 < columns_of c) × All (λ d. columns_of d ≡ 0) cs

-- each character but the first was put on a text with room: so there are at most 21 bytes
abbrev pub IsShort : List ℕ → Type 0
IsShort cs = (i : ℕ) → 0 < i → i < length cs → has_room (take i cs) ≡ true

-- the first character says whether the cell is wide, but that U+FE0F can widen a narrow one
abbrev pub IsWideAs : List ℕ → Bool → Type 0
IsWideAs [] wide = wide ≡ false
IsWideAs (c ∷ cs) wide = (wide ≡ (columns_of c == 2)) ⊎ (Contains cs 0xFE0F × (wide ≡ true))

pub record IsCell (x : CellView) : Type 0 where
  pub characters : IsCellText x.text
  pub short : IsShort x.text
  pub scalars : All IsScalar x.text
  pub wide : IsWideAs x.text x.wide
  pub blank : x.continuation ≡ true → x.text ≡ []

-- ---- equality

abbrev pub bool_eq : Bool → Bool → Bool
bool_eq p q = if p then q else not q

abbrev pub text_eq : List ℕ → List ℕ → Bool
text_eq = pointwise nat_eq

-- equality of text, flags and attributes
abbrev pub cell_eq : CellView → CellView → Bool
cell_eq x y = (text_eq x.text y.text && (bool_eq x.wide y.wide && bool_eq x.continuation y.continuation))
    && attrs_eq x.attrs y.attrs

abbrev pub is_default : CellView → Bool
is_default x = cell_eq x default_cell

-- ---- laws

-- a cell without U+FE0F is its first character with the others put on
abbrev pub EachCellIsItsCharacters : Type 0
EachCellIsItsCharacters = (x : CellView) (c : ℕ) (cs : List ℕ) → IsCell x → x.text ≡ c ∷ cs → (Contains cs 0xFE0F → ⊥)
    → all_appended (cell_of c x.attrs) cs ≡ x

abbrev pub EachTextIsShort : Type 0
EachTextIsShort = (x : CellView) → IsCell x → length (encode_utf8_all x.text) ≤ 21
