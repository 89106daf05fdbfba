-- What an SGR sequence sets, group by group.
use Rattle.std.specs.Prelude.{ℕ, ◌+◌, Bool, true, false, List, drop, Option, Some, None, Result, Ok, Err}
use Rattle.vt100_forms.specs.declared.attrs.Attrs.{Attrs}
use Rattle.vt100_forms.specs.declared.attrs.Color.{Color}
use Rattle.vte_core.specs.Store.{each_alone}
use Rattle.screen_model.specs.Sgr.{Read, Asks, change, ends, ends_unhandled, read_groups, one_more, colored}
use Rattle.vt100.specs.declared.screen.sgr.End.{End}
use Rattle.vt100.specs.declared.screen.sgr.End.TheVariants.{Value, Kind}

abbrev pub read_of : Attrs → ℕ → Read
read_of a n = record { attrs = a; unhandled = n }

-- the reading ends
abbrev pub ended : End → Attrs → Read
ended Value a = read_of a 0
ended Kind a = read_of a 1

-- a group is read, with these attributes afterwards, and these groups follow
abbrev pub group_led : Result Bool End → Attrs → List (List ℕ) → Read
group_led (Ok true) a gs = read_groups gs 0 a
group_led (Ok false) a gs = one_more (read_groups gs 0 a)
group_led (Err e) a gs = ended e a

-- a colour of the foreground, or of the background, is read
abbrev pub color_led : Bool → Result Color End → Attrs → List (List ℕ) → Read
color_led t (Ok x) a gs = read_groups gs 0 (colored t x a)
color_led t (Err e) a gs = ended e a

-- what a row of a table does, where there is one
abbrev pub code_applied : Option (Attrs → Attrs) → Attrs → Attrs
code_applied None a = a
code_applied (Some f) a = f a

-- a group that has no row is unhandled
abbrev pub unhandled_of : Option (Attrs → Attrs) → ℕ
unhandled_of None = 1
unhandled_of (Some f) = 0

-- n more groups are unhandled
abbrev pub more_unhandled : ℕ → Read → Read
more_unhandled n x = read_of x.attrs (x.unhandled + n)

-- a number is read, with these attributes afterwards; n groups are unhandled, and k of the numbers that follow belong
-- to it
abbrev pub number_led : Result (ℕ × ℕ) End → Attrs → List ℕ → Read
number_led (Ok (n, k)) a ns = more_unhandled n (read_groups (each_alone (drop k ns)) 0 a)
number_led (Err e) a ns = ended e a

-- what the numbers at the start ask for, with the 38 or 48 before them: a colour, which takes k of them
abbrev pub color_asked : Bool → Result (Color × ℕ) End → Asks
color_asked t (Ok (x, k)) = change (colored t x) k
color_asked t (Err Value) = ends
color_asked t (Err Kind) = ends_unhandled
