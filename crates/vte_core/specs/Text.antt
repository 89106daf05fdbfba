-- The events of ground text: the characters of UTF-8.
use Rattle.std.specs.Prelude.{ℕ, zero, suc, ◌+◌, ◌-◌, ◌*◌, Bool, ◌&&◌, ◌||◌, List, [], ◌∷◌, ◌++◌, length, take, nat_lt}
use Rattle.std.specs.Prelude.{◌==◌, if◌then◌else◌}
use Rattle.std.specs.Int.{is_in_range}
use Rattle.vte_core.specs.Event.{Event, Print, Execute}

-- how many bytes a character with this first byte has, 0 if no character begins with it (Unicode, table 3-7)
abbrev pub char_len : ℕ → ℕ
char_len a =
    if nat_lt a 0x80 then 1
    else (if is_in_range 0xC2 0xDF a then 2
    else (if is_in_range 0xE0 0xEF a then 3
    else (if is_in_range 0xF0 0xF4 a then 4 else 0)))

-- the least and the greatest second byte after the first byte
abbrev pub second_min : ℕ → ℕ
second_min a = if a == 0xE0 then 0xA0 else (if a == 0xF0 then 0x90 else 0x80)

abbrev pub second_max : ℕ → ℕ
second_max a = if a == 0xED then 0x9F else (if a == 0xF4 then 0x8F else 0xBF)

-- how many of the next k bytes, one after another, can continue a character whose next byte is from lo to hi
abbrev pub tail_len : ℕ → ℕ → ℕ → List ℕ → ℕ
tail_len zero lo hi bs = 0
tail_len (suc k) lo hi [] = 0
tail_len (suc k) lo hi (b ∷ bs) = if is_in_range lo hi b then suc (tail_len k 0x80 0xBF bs) else 0

-- the length of the longest prefix that also begins a well-formed character with the first byte a, at least one byte
abbrev pub prefix_len : ℕ → List ℕ → ℕ
prefix_len a bs = suc (tail_len (char_len a - 1) (second_min a) (second_max a) bs)

-- the bits of the first byte, and the number that the bytes of a character encode
abbrev pub first_bits : ℕ → ℕ
first_bits a = if nat_lt a 0x80 then a else (if nat_lt a 0xE0 then a - 0xC0
    else (if nat_lt a 0xF0 then a - 0xE0 else a - 0xF0))

abbrev pub joined : ℕ → List ℕ → ℕ
joined c [] = c
joined c (b ∷ bs) = joined (c * 64 + (b - 128)) bs

-- a control, in ASCII or above, is executed, and every other character is printed
abbrev pub char_event : ℕ → Event
char_event c = if nat_lt c 0x20 || is_in_range 0x80 0x9F c then Execute c else Print c

-- a malformed sequence of n bytes that begins with a
abbrev pub malformed_event : ℕ → ℕ → Event
malformed_event n a = if n == 1 && is_in_range 0x80 0x9F a then Execute a else Print 0xFFFD

-- the event of the character or of the malformed sequence at the start; an unfinished character at the end gives one
-- only where ESC cuts it off
abbrev pub prefix_event : Bool → ℕ → List ℕ → List Event
prefix_event cut a bs =
    let n = prefix_len a bs in
    if n == char_len a then char_event (joined (first_bits a) (take (n - 1) bs)) ∷ []
    else (if nat_lt 0 (char_len a) && nat_lt (length bs) n then (if cut then Print 0xFFFD ∷ [] else [])
    else malformed_event n a ∷ [])

-- the events of the text after the next skip bytes; cut says that ESC follows
abbrev pub text_after : ℕ → Bool → List ℕ → List Event
text_after skip cut [] = []
text_after (suc skip) cut (b ∷ bs) = text_after skip cut bs
text_after zero cut (b ∷ bs) = prefix_event cut b bs ++ text_after (prefix_len b bs - 1) cut bs

abbrev pub text : Bool → List ℕ → List Event
text = text_after 0
