-- The calls of operating system commands.
use Rattle.std.specs.Prelude.{ℕ, ◌+◌, ◌*◌, ◌-◌, ◌/◌, ◌^◌, ◌%◌, ◌≤◌, Bool, ◌&&◌, List, [], ◌∷◌, ◌++◌, Option, Some, None}
use Rattle.std.specs.Prelude.{nat_eq, nat_lt, ◌==◌, if◌then◌else◌, length, take, drop, map, unwrap_or, bytes_eq, codes}
use Rattle.std.specs.Prelude.{find, filter}
use Rattle.std.specs.List.{slice_split, concat, join_with_byte, starts_with, fold, flat_map, range_with_len}
use Rattle.std.specs.Str.{is_utf8, trim, all_ascii_digits}
use Rattle.std.specs.Fmt.{decimal}
use Rattle.std.specs.Option.{option_and_then, option_to_list}
use Rattle.vte_types.specs.Call as call
use Rattle.vte_types.specs.Call.{Call, Link}
use Rattle.vte_types.specs.Hex.{are_hex, hex_value}
use Rattle.vte_types.specs.Lookup.{lookup}
use Rattle.vte_types.specs.declared.rgb.Rgb.{Rgb}
use Rattle.vte_types.specs.CursorIcon.{name_of, all_icons}
use Rattle.vte_types.specs.declared.cursor.CursorShape.TheVariants as shape
use Rattle.vte.specs.Escape.{calls_at}

-- the value of a name in a table, in the first row with that name
abbrev pub named : {X : Type 0} → List ℕ → List (List ℕ × X) → Option X
named name [] = None
named name (row ∷ rows) = if bytes_eq name row.0 then Some row.1 else named name rows

-- the bytes that ended the command, which the answer ends with: BEL, or ESC and a backslash
abbrev pub end_text : Bool → List ℕ
end_text bell = if bell then 7 ∷ [] else 27 ∷ 92 ∷ []

-- no more pieces and bytes than a parser keeps
pub record AreKept (ps : List (List ℕ)) : Type 0 where
  pub pieces : length ps ≤ 16
  pub bytes : length (concat ps) ≤ 1024

-- 0, 2: the pieces that are UTF-8, joined by `;`, trimmed
abbrev pub title_of : List (List ℕ) → List ℕ
title_of ps = trim (join_with_byte 59 (filter is_utf8 ps))

abbrev pub title_calls : List (List ℕ) → List Call
title_calls [] = []
title_calls (p ∷ ps) = call.set_title (Some (title_of (p ∷ ps))) ∷ []

-- the number that decimal digits write after a first number, if it is at most 255
abbrev pub decimal_from : ℕ → List ℕ → ℕ
decimal_from n ds = fold (λ m d. m * 10 + (d - 48)) n ds

abbrev pub byte_from : ℕ → List ℕ → Option ℕ
byte_from n ds = if all_ascii_digits ds && nat_lt (decimal_from n ds) 256 then Some (decimal_from n ds) else None

-- the number from 0 to 255 that decimal digits write
abbrev pub byte_number : List ℕ → Option ℕ
byte_number ds = if length ds == 0 then None else byte_from 0 ds

-- a colour of three parts, if each is there
abbrev pub color_of_parts : Option ℕ → Option ℕ → Option ℕ → Option Rgb
color_of_parts None g b = None
color_of_parts (Some r) None b = None
color_of_parts (Some r) (Some g) None = None
color_of_parts (Some r) (Some g) (Some b) = Some (record { r = r; g = g; b = b })

-- the value of the first two hexadecimal digits; of one digit, 16 times its value
abbrev pub first_two : List ℕ → ℕ
first_two ds = if length ds == 1 then 16 * hex_value ds else hex_value (take 2 ds)

abbrev pub leading : List ℕ → Option ℕ
leading ds = if are_hex ds then Some (first_two ds) else None

-- `#` and 3, 6, 9 or 12 digits: the first two digits of each third
abbrev pub third_rows : List (ℕ × ℕ)
third_rows = (3, 1) ∷ (6, 2) ∷ (9, 3) ∷ (12, 4) ∷ []

abbrev pub color_of_thirds : ℕ → List ℕ → Option Rgb
color_of_thirds n ds = color_of_parts (leading (take n ds)) (leading (take n (drop n ds)))
    (leading (take n (drop (2 * n) ds)))

abbrev pub hash_color : List ℕ → Option Rgb
hash_color ds = option_and_then (λ n. color_of_thirds n ds) (lookup (length ds) third_rows)

-- 1 to 4 digits, scaled so that the greatest number of as many digits is 255, rounded down
abbrev pub scaled : List ℕ → Option ℕ
scaled ds =
    if nat_lt 0 (length ds) && (nat_lt (length ds) 5 && are_hex ds)
    then Some (255 * hex_value ds / (16 ^ length ds - 1))
    else None

-- `rgb:` and three parts of 1 to 4 digits
abbrev pub three_parts : List (List ℕ) → Option Rgb
three_parts [] = None
three_parts (r ∷ []) = None
three_parts (r ∷ g ∷ []) = None
three_parts (r ∷ g ∷ b ∷ []) = color_of_parts (scaled r) (scaled g) (scaled b)
three_parts (r ∷ g ∷ b ∷ x ∷ xs) = None

abbrev pub color_of_text : List ℕ → Option Rgb
color_of_text p =
    if starts_with nat_eq p (codes "#") then hash_color (drop 1 p) else
    (if starts_with nat_eq p (codes "rgb:") then three_parts (slice_split (λ c. c == 47) (drop 4 p)) else None)

-- the call that sets the colour of an index, or asks for it at `?`
abbrev pub set_or_ask : Option Rgb → List ℕ → ℕ → List ℕ → List ℕ → List Call
set_or_ask (Some c) prefix i end p = call.set_color i c ∷ []
set_or_ask None prefix i end p = if bytes_eq p (codes "?") then call.dynamic_color_sequence prefix i end ∷ [] else []

abbrev pub color_calls : List ℕ → ℕ → List ℕ → List ℕ → List Call
color_calls prefix i end p = set_or_ask (color_of_text p) prefix i end p

-- 4: pairs of index and colour
abbrev pub pair_calls : Option ℕ → List ℕ → List ℕ → List Call
pair_calls None p end = []
pair_calls (Some i) p end = color_calls (codes "4;" ++ decimal i) i end p

abbrev pub pairs_calls : List (List ℕ) → List ℕ → List Call
pairs_calls [] end = []
pairs_calls (i ∷ []) end = []
pairs_calls (i ∷ p ∷ ps) end = pair_calls (byte_number i) p end ++ pairs_calls ps end

abbrev pub palette_calls : List (List ℕ) → List ℕ → List Call
palette_calls ps end = if length ps % 2 == 0 then pairs_calls ps end else []

-- the piece, if it is UTF-8
abbrev pub utf8_or_none : List ℕ → Option (List ℕ)
utf8_or_none p = if is_utf8 p then Some p else None

-- 8: a hyperlink. Its uri is the pieces after the first, joined by `;`; one that isn't UTF-8 counts as empty.
abbrev pub text_or_empty : List ℕ → List ℕ
text_or_empty p = unwrap_or (utf8_or_none p) []

-- its id: what follows the first `id=` at the start of a part, where parts end at `:`
abbrev pub link_id : List ℕ → Option (List ℕ)
link_id p = option_and_then (λ part. utf8_or_none (drop 3 part))
    (find (λ part. starts_with nat_eq part (codes "id=")) (slice_split (λ c. c == 58) p))

abbrev pub link_to : List ℕ → List ℕ → Option Link
link_to p uri = if length uri == 0 then None else Some (record { id = link_id p; uri = uri })

abbrev pub link_calls : List (List ℕ) → List Call
link_calls [] = []
link_calls (p ∷ []) = []
link_calls (p ∷ u ∷ us) = call.set_hyperlink (link_to p (join_with_byte 59 (map text_or_empty (u ∷ us)))) ∷ []

-- 10, 11, 12: the pieces in turn, from that number on, up to 12
abbrev pub two_digits : ℕ → List ℕ
two_digits n = (48 + n / 10) ∷ (48 + n % 10) ∷ []

abbrev pub dynamic_calls : ℕ → List (List ℕ) → List ℕ → List Call
dynamic_calls n [] end = []
dynamic_calls n (p ∷ ps) end = if nat_lt 12 n then []
    else color_calls (two_digits n) (246 + n) end p ++ dynamic_calls (n + 1) ps end

-- 22: the mouse pointer's shape, by its name
abbrev pub icon_calls : List (List ℕ) → List Call
icon_calls [] = []
icon_calls (p ∷ []) = map call.set_mouse_cursor_icon
    (option_to_list (find (λ icon. bytes_eq (name_of icon) p) all_icons))
icon_calls (p ∷ q ∷ ps) = []

-- 50: a cursor's shape
abbrev pub shape_rows : List (ℕ × List Call)
shape_rows = (48, call.set_cursor_shape shape.Block ∷ []) ∷ (49, call.set_cursor_shape shape.Beam ∷ [])
    ∷ (50, call.set_cursor_shape shape.Underline ∷ []) ∷ []

abbrev pub shape_calls : List ℕ → List Call
shape_calls [] = []
shape_calls (b ∷ bs) = calls_at b shape_rows

abbrev pub cursor_calls : List (List ℕ) → List Call
cursor_calls [] = []
cursor_calls (p ∷ ps) = if starts_with nat_eq p (codes "CursorShape=") then shape_calls (drop 12 p) else []

-- 52: the clipboard that the first byte names; `c` if there is none
abbrev pub clipboard_of : List ℕ → ℕ
clipboard_of [] = 99
clipboard_of (b ∷ bs) = b

abbrev pub clipboard_calls : List (List ℕ) → List ℕ → List Call
clipboard_calls [] end = []
clipboard_calls (s ∷ []) end = []
clipboard_calls (s ∷ d ∷ ps) end = if bytes_eq d (codes "?") then call.clipboard_load (clipboard_of s) end ∷ []
    else call.clipboard_store (clipboard_of s) d ∷ []

-- 104: colours of the palette are reset, all if none is named
abbrev pub index_resets : List ℕ → List Call
index_resets p = map call.reset_color (option_to_list (byte_number p))

abbrev pub all_resets : List Call
all_resets = map call.reset_color (range_with_len 0 256)

abbrev pub reset_calls : List (List ℕ) → List Call
reset_calls [] = all_resets
reset_calls ([] ∷ ps) = all_resets
reset_calls ((b ∷ bs) ∷ ps) = flat_map index_resets ((b ∷ bs) ∷ ps)

-- the calls for the number that a command begins with, given the pieces after it and the bytes that end it
abbrev pub osc_rows : List (List ℕ × (List (List ℕ) → List ℕ → List Call))
osc_rows =
    (codes "0", λ ps end. title_calls ps) ∷ (codes "2", λ ps end. title_calls ps)
    ∷ (codes "4", palette_calls) ∷ (codes "8", λ ps end. link_calls ps)
    ∷ (codes "10", dynamic_calls 10) ∷ (codes "11", dynamic_calls 11) ∷ (codes "12", dynamic_calls 12)
    ∷ (codes "22", λ ps end. icon_calls ps) ∷ (codes "50", λ ps end. cursor_calls ps) ∷ (codes "52", clipboard_calls)
    ∷ (codes "104", λ ps end. reset_calls ps) ∷ (codes "110", λ ps end. call.reset_color 256 ∷ [])
    ∷ (codes "111", λ ps end. call.reset_color 257 ∷ []) ∷ (codes "112", λ ps end. call.reset_color 258 ∷ []) ∷ []

-- the calls of a command's pieces
abbrev pub osc_calls : List (List ℕ) → Bool → List Call
osc_calls [] bell = []
osc_calls (p ∷ ps) bell = unwrap_or (named p osc_rows) (λ qs end. []) ps (end_text bell)
