-- The attributes that the groups of an SGR sequence set.
use Rattle.std.specs.Prelude.{ℕ, List, [], ◌∷◌, ◌++◌, Option, Some, None, nat_eq, nat_lt, if◌then◌else◌, length, drop}
use Rattle.std.specs.Prelude.{unwrap_or}
use Rattle.std.specs.Option.{option_map, option_to_list}
use Rattle.vte_types.specs.Lookup.{lookup}
use Rattle.vte_types.specs.declared.color.Color.{Color}
use Rattle.vte_types.specs.declared.color.Color.TheVariants.{Named, Spec, Indexed}
use Rattle.vte_types.specs.declared.color.NamedColor.TheVariants as c
use Rattle.vte_types.specs.declared.attr.Attr.{Attr}
use Rattle.vte_types.specs.declared.attr.Attr.TheVariants as a
use Rattle.vte.specs.declared.sgr.Target.{Target}
use Rattle.vte.specs.declared.sgr.Target.TheVariants.{Foreground, Background, Underline}

-- a group of one number
abbrev pub singles : List (ℕ × Attr)
singles =
    (0, a.Reset) ∷ (1, a.Bold) ∷ (2, a.Dim) ∷ (3, a.Italic) ∷ (4, a.Underline) ∷ (5, a.BlinkSlow) ∷ (6, a.BlinkFast)
    ∷ (7, a.Reverse)
    ∷ (8, a.Hidden) ∷ (9, a.Strike) ∷ (21, a.CancelBold) ∷ (22, a.CancelBoldDim) ∷ (23, a.CancelItalic)
    ∷ (24, a.CancelUnderline)
    ∷ (25, a.CancelBlink) ∷ (27, a.CancelReverse) ∷ (28, a.CancelHidden) ∷ (29, a.CancelStrike)
    ∷ (30, a.Foreground (Named c.Black)) ∷ (31, a.Foreground (Named c.Red)) ∷ (32, a.Foreground (Named c.Green))
    ∷ (33, a.Foreground (Named c.Yellow))
    ∷ (34, a.Foreground (Named c.Blue)) ∷ (35, a.Foreground (Named c.Magenta)) ∷ (36, a.Foreground (Named c.Cyan))
    ∷ (37, a.Foreground (Named c.White))
    ∷ (39, a.Foreground (Named c.Foreground))
    ∷ (40, a.Background (Named c.Black)) ∷ (41, a.Background (Named c.Red)) ∷ (42, a.Background (Named c.Green))
    ∷ (43, a.Background (Named c.Yellow))
    ∷ (44, a.Background (Named c.Blue)) ∷ (45, a.Background (Named c.Magenta)) ∷ (46, a.Background (Named c.Cyan))
    ∷ (47, a.Background (Named c.White))
    ∷ (49, a.Background (Named c.Background)) ∷ (59, a.UnderlineColor None)
    ∷ (90, a.Foreground (Named c.BrightBlack)) ∷ (91, a.Foreground (Named c.BrightRed))
    ∷ (92, a.Foreground (Named c.BrightGreen)) ∷ (93, a.Foreground (Named c.BrightYellow))
    ∷ (94, a.Foreground (Named c.BrightBlue)) ∷ (95, a.Foreground (Named c.BrightMagenta))
    ∷ (96, a.Foreground (Named c.BrightCyan)) ∷ (97, a.Foreground (Named c.BrightWhite))
    ∷ (100, a.Background (Named c.BrightBlack)) ∷ (101, a.Background (Named c.BrightRed))
    ∷ (102, a.Background (Named c.BrightGreen)) ∷ (103, a.Background (Named c.BrightYellow))
    ∷ (104, a.Background (Named c.BrightBlue)) ∷ (105, a.Background (Named c.BrightMagenta))
    ∷ (106, a.Background (Named c.BrightCyan)) ∷ (107, a.Background (Named c.BrightWhite)) ∷ []

-- 4 and a style
abbrev pub underlines : List (ℕ × Attr)
underlines = (0, a.CancelUnderline) ∷ (2, a.DoubleUnderline) ∷ (3, a.Undercurl) ∷ (4, a.DottedUnderline)
    ∷ (5, a.DashedUnderline) ∷ []

abbrev pub colored : Target → Color → Attr
colored Foreground x = a.Foreground x
colored Background x = a.Background x
colored Underline x = a.UnderlineColor (Some x)

abbrev pub target_of : ℕ → Option Target
target_of n = lookup n ((38, Foreground) ∷ (48, Background) ∷ (58, Underline) ∷ [])

-- the colour of red, green and blue, if each is below 256
abbrev pub rgb_color : ℕ → ℕ → ℕ → Option Color
rgb_color r g b = if nat_lt r 256 then (if nat_lt g 256
    then (if nat_lt b 256 then Some (Spec (record { r = r; g = g; b = b })) else None) else None) else None

abbrev pub indexed_color : ℕ → Option Color
indexed_color i = if nat_lt i 256 then Some (Indexed i) else None

-- the colour that numbers after 38 name
abbrev pub rgb_of : List ℕ → Option Color
rgb_of [] = None
rgb_of (r ∷ []) = None
rgb_of (r ∷ g ∷ []) = None
rgb_of (r ∷ g ∷ b ∷ ns) = rgb_color r g b

abbrev pub index_of : List ℕ → Option Color
index_of [] = None
index_of (i ∷ ns) = indexed_color i

abbrev pub color_of : ℕ → List ℕ → Option Color
color_of m ns = if nat_eq m 2 then rgb_of ns else (if nat_eq m 5 then index_of ns else None)

-- the colour in a group, after 38; if more than four numbers follow, the second is skipped
abbrev pub group_color : List ℕ → Option Color
group_color [] = None
group_color (m ∷ ns) = color_of m (if nat_lt 4 (length (m ∷ ns)) then drop 1 ns else ns)

-- the first number of a group
abbrev pub first : List ℕ → ℕ
first [] = 0
first (n ∷ ns) = n

abbrev pub underline_of : ℕ → List ℕ → Attr
underline_of style [] = unwrap_or (lookup style underlines) a.Underline
underline_of style (n ∷ ns) = a.Underline

abbrev pub color_group : Option Target → List ℕ → Option Attr
color_group None ns = None
color_group (Some t) ns = option_map (colored t) (group_color ns)

-- the attribute that one group sets by itself
abbrev pub group_attr : List ℕ → Option Attr
group_attr [] = None
group_attr (n ∷ []) = lookup n singles
group_attr (n ∷ m ∷ ns) = if nat_eq n 4 then Some (underline_of m ns) else color_group (target_of n) (m ∷ ns)

-- What the next groups still hold of a colour that began as a group of its own: nothing, its kind, an index, red, green
-- after red, or blue after both.
pub data Awaits : Type 0 where
  nothing : Awaits
  selector : Target → Awaits
  index : Target → Awaits
  red : Target → Awaits
  green : Target → ℕ → Awaits
  blue : Target → ℕ → ℕ → Awaits

abbrev pub awaits_kind : Option Target → Awaits
awaits_kind None = nothing
awaits_kind (Some t) = selector t

-- a colour begins at a group of the one number 38, 48 or 58
abbrev pub awaited : List ℕ → Awaits
awaited [] = nothing
awaited (n ∷ []) = awaits_kind (target_of n)
awaited (n ∷ m ∷ ns) = nothing

abbrev pub chosen : Target → ℕ → Awaits
chosen t n = if nat_eq n 2 then red t else (if nat_eq n 5 then index t else nothing)

-- the attributes that groups set, in order
abbrev pub attributes : Awaits → List (List ℕ) → List Attr
attributes a [] = []
attributes nothing (g ∷ gs) = option_to_list (group_attr g) ++ attributes (awaited g) gs
attributes (selector t) (g ∷ gs) = attributes (chosen t (first g)) gs
attributes (index t) (g ∷ gs) = option_to_list (option_map (colored t) (indexed_color (first g)))
    ++ attributes nothing gs
attributes (red t) (g ∷ gs) = attributes (if nat_lt (first g) 256 then green t (first g) else nothing) gs
attributes (green t r) (g ∷ gs) = attributes (if nat_lt (first g) 256 then blue t r (first g) else nothing) gs
attributes (blue t r gr) (g ∷ gs) = option_to_list (option_map (colored t) (rgb_color r gr (first g)))
    ++ attributes nothing gs
