-- What the groups of an SGR sequence do to the current attributes (ECMA-48 8.3.117; colours by ITU-T T.416).
use Rattle.std.specs.Prelude.{ℕ, zero, suc, ◌+◌, ◌-◌, Bool, true, false, List, [], ◌∷◌, get_or, Option, Some, None}
use Rattle.std.specs.Prelude.{option_map, nat_eq, nat_lt, if◌then◌else◌}
use Rattle.std.specs.Int.{is_in_range}
use Rattle.vt100_forms.specs.Attrs.{default_attrs, with_bold, with_dim, with_normal_intensity, with_italic}
use Rattle.vt100_forms.specs.Attrs.{with_underline, with_inverse}
use Rattle.vt100_forms.specs.declared.attrs.Attrs.{Attrs}
use Rattle.vt100_forms.specs.declared.attrs.Color.{Color}
use Rattle.vt100_forms.specs.declared.attrs.Color.TheVariants.{Default, Idx, Rgb}
use Rattle.screen_model.specs.Lookup.{lookup}

-- the foreground, or the background, gets this colour
abbrev pub colored : Bool → Color → Attrs → Attrs
colored true x a = record a { fgcolor = x }
colored false x a = record a { bgcolor = x }

-- ---- a group of one number

abbrev pub flag_rows : List (ℕ × (Attrs → Attrs))
flag_rows =
    (0, λ a. default_attrs) ∷ (1, with_bold) ∷ (2, with_dim) ∷ (3, with_italic true) ∷ (4, with_underline true)
    ∷ (7, with_inverse true)
    ∷ (22, with_normal_intensity) ∷ (23, with_italic false) ∷ (24, with_underline false) ∷ (27, with_inverse false)
    ∷ (39, colored true Default) ∷ (49, colored false Default) ∷ []

-- the eight colours and the bright ones, and the flags
abbrev pub code_row : ℕ → Option (Attrs → Attrs)
code_row n =
    if is_in_range 30 37 n then Some (colored true (Idx (n - 30)))
    else if is_in_range 40 47 n then Some (colored false (Idx (n - 40)))
    else if is_in_range 90 97 n then Some (colored true (Idx (n - 82)))
    else if is_in_range 100 107 n then Some (colored false (Idx (n - 92)))
    else lookup n flag_rows

-- ---- colours

-- a value of a colour, if it is below 256
abbrev pub value : ℕ → Option ℕ
value n = if nat_lt n 256 then Some n else None

-- the value of a group of one number
abbrev pub alone : List ℕ → Option ℕ
alone (n ∷ []) = value n
alone ns = None

-- the value of the group at k
abbrev pub value_at : List (List ℕ) → ℕ → Option ℕ
value_at gs k = alone (get_or gs k [])

abbrev pub rgb : Option ℕ → Option ℕ → Option ℕ → Option Color
rgb (Some r) (Some g) (Some b) = Some (Rgb r g b)
rgb r g b = None

-- ---- what the groups at the start of a list ask for

pub data Asks : Type 0 where
  -- a change, made by the first group and by this many groups after it
  change : (Attrs → Attrs) → ℕ → Asks
  -- the first group is unhandled, and the next one is read as usual
  passed_over : Asks
  -- reading ends: a value is missing, is over 255, or is in a group with others
  ends : Asks
  -- reading ends, and a group is unhandled: the kind of colour is neither 2 nor 5
  ends_unhandled : Asks

abbrev pub color_change : Bool → Option Color → ℕ → Asks
color_change t None k = ends
color_change t (Some x) k = change (colored t x) k

-- a colour in groups of their own after 38 or 48: 2, red, green and blue, or 5 and an index
abbrev pub separate_color : Bool → List (List ℕ) → Asks
separate_color t [] = ends
separate_color t ((n ∷ []) ∷ gs) =
    if nat_eq n 2 then color_change t (rgb (value_at gs 0) (value_at gs 1) (value_at gs 2)) 4
    else if nat_eq n 5 then color_change t (option_map Idx (value_at gs 0)) 2
    else ends_unhandled
separate_color t (g ∷ gs) = ends_unhandled

-- a colour in one group with 38 or 48
abbrev pub group_color : Bool → List ℕ → Asks
group_color t (n ∷ i ∷ []) = if nat_eq n 5 then color_change t (option_map Idx (value i)) 0 else passed_over
group_color t (n ∷ r ∷ g ∷ b ∷ []) =
    if nat_eq n 2 then color_change t (rgb (value r) (value g) (value b)) 0 else passed_over
group_color t ns = passed_over

abbrev pub row_asks : Option (Attrs → Attrs) → Asks
row_asks None = passed_over
row_asks (Some f) = change f 0

-- 38 begins a foreground colour, 48 a background
abbrev pub asks : List ℕ → List (List ℕ) → Asks
asks [] gs = passed_over
asks (n ∷ []) gs =
    if nat_eq n 38 then separate_color true gs
    else if nat_eq n 48 then separate_color false gs
    else row_asks (code_row n)
asks (n ∷ ns) gs =
    if nat_eq n 38 then group_color true ns
    else if nat_eq n 48 then group_color false ns
    else passed_over

-- ---- all groups

-- the attributes, and how many groups were unhandled
pub record Read : Type 0 where
  pub attrs : Attrs
  pub unhandled : ℕ

abbrev pub one_more : Read → Read
one_more x = record { attrs = x.attrs; unhandled = x.unhandled + 1 }

abbrev pub read_on : (ℕ → Attrs → Read) → Attrs → Asks → Read
read_on rest a (change f k) = rest k (f a)
read_on rest a passed_over = one_more (rest 0 a)
read_on rest a ends = record { attrs = a; unhandled = 0 }
read_on rest a ends_unhandled = record { attrs = a; unhandled = 1 }

-- the attributes after these groups, of which the first k belong to a colour that is read already
abbrev pub read_groups : List (List ℕ) → ℕ → Attrs → Read
read_groups [] k a = record { attrs = a; unhandled = 0 }
read_groups (g ∷ gs) (suc k) a = read_groups gs k a
read_groups (g ∷ gs) zero a = read_on (read_groups gs) a (asks g gs)

-- the attributes after an SGR; without any group they are the default ones
abbrev pub sgr_read : List (List ℕ) → Attrs → Read
sgr_read [] a = record { attrs = default_attrs; unhandled = 0 }
sgr_read (g ∷ gs) a = read_groups (g ∷ gs) 0 a
