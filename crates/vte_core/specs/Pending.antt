-- What of the bytes so far has had no event yet: a parser's state.
use Rattle.std.specs.Prelude.{◌≡◌, ℕ, ◌+◌, ◌-◌, ◌<◌, Bool, true, false, not, ◌&&◌, ◌||◌, List, [], ◌∷◌, ◌++◌, length}
use Rattle.std.specs.Prelude.{take, nat_lt, ◌==◌, if◌then◌else◌, slice_index}
use Rattle.std.specs.Int.{is_in_range}
use Rattle.vte_core.specs.Event.{Event, Print, Execute, Hook, Put, Unhook, Osc, Csi, Esc}
use Rattle.vte_core.specs.Bytes.{is_esc, is_abort, is_control, is_intermediate, is_header, ends_header, ends_escape}
use Rattle.vte_core.specs.Bytes.{ends_osc, ends_device, is_put}
use Rattle.vte_core.specs.Text.{char_len, second_min, second_max, tail_len, first_bits, joined, char_event}
use Rattle.vte_core.specs.Text.{malformed_event}
use Rattle.vte_core.specs.Header.{is_well_formed, kept_groups, kept_intermediates, overflows}
use Rattle.vte_core.specs.Shapes.{osc_pieces}

-- what is pending after some bytes
pub data Pending : Type 0 where
  -- ground text, with the bytes of an unfinished character
  InText : List ℕ → Pending
  -- an escape, with its intermediates
  InEscape : List ℕ → Pending
  -- a CSI, with its header
  InCsi : List ℕ → Pending
  -- an OSC, with its data
  InOsc : List ℕ → Pending
  -- a device string, with its header; its data; a swallowed string
  InHook : List ℕ → Pending
  InDevice : Pending
  InSwallowed : Pending

-- the byte, where it passes the test
abbrev pub kept : (ℕ → Bool) → ℕ → List ℕ
kept p b = if p b then b ∷ [] else []

abbrev pub reported : (ℕ → Bool) → (ℕ → Event) → ℕ → List Event
reported p f b = if p b then f b ∷ [] else []

-- b continues the character that a ∷ t begins
abbrev pub goes_on : ℕ → List ℕ → ℕ → Bool
goes_on a [] b = is_in_range (second_min a) (second_max a) b
goes_on a (c ∷ t) b = is_in_range 0x80 0xBF b

-- the events of a byte that begins a character, and what it leaves unfinished
abbrev pub begun : ℕ → List Event
begun b = if char_len b == 1 then char_event (first_bits b) ∷ []
    else (if char_len b == 0 then malformed_event 1 b ∷ [] else [])

abbrev pub begun_rest : ℕ → List ℕ
begun_rest b = if char_len b == 1 then [] else (if char_len b == 0 then [] else b ∷ [])

abbrev pub text_reported : List ℕ → ℕ → List Event
text_reported [] b = begun b
text_reported (a ∷ t) b =
    if goes_on a t b then (if length t + 2 == char_len a then char_event (joined (first_bits a) (t ++ b ∷ [])) ∷ []
    else [])
    else Print 0xFFFD ∷ begun b

abbrev pub text_rest : List ℕ → ℕ → List ℕ
text_rest [] b = begun_rest b
text_rest (a ∷ t) b =
    if goes_on a t b then (if length t + 2 == char_len a then [] else a ∷ (t ++ b ∷ []))
    else begun_rest b

-- ESC cuts off what is pending
abbrev pub closed : ℕ → Pending → List Event
closed n (InText []) = []
closed n (InText (a ∷ t)) = Print 0xFFFD ∷ []
closed n (InEscape is) = []
closed n (InCsi h) = []
closed n (InOsc s) = Osc (osc_pieces n s) false ∷ []
closed n (InHook h) = []
closed n InDevice = Unhook ∷ []
closed n InSwallowed = []

-- what the final byte of an escape does, and begins
abbrev pub final_reported : List ℕ → ℕ → List Event
final_reported is b =
    if length is == 0 && b == 0x5B then []
    else (if length is == 0 && b == 0x5D then []
    else (if length is == 0 && b == 0x50 then []
    else (if length is == 0 && (b == 0x58 || (b == 0x5E || b == 0x5F)) then []
    else Esc (take 2 is) (nat_lt 2 (length is)) b ∷ [])))

abbrev pub final_rest : List ℕ → ℕ → Pending
final_rest is b =
    if length is == 0 && b == 0x5B then InCsi []
    else (if length is == 0 && b == 0x5D then InOsc []
    else (if length is == 0 && b == 0x50 then InHook []
    else (if length is == 0 && (b == 0x58 || (b == 0x5E || b == 0x5F)) then InSwallowed
    else InText [])))

-- a byte other than ESC: its events, and what is pending after it
abbrev pub byte_reported : ℕ → Pending → ℕ → List Event
byte_reported n (InText u) b = text_reported u b
byte_reported n (InEscape is) b =
    if ends_escape b then
    (if is_abort b then Execute b ∷ [] else final_reported is b) else reported is_control Execute b
byte_reported n (InCsi h) b =
    if ends_header b then (if is_abort b then Execute b ∷ []
    else (if is_well_formed h then Csi (kept_groups h) (kept_intermediates h) (overflows h) b ∷ [] else []))
    else reported is_control Execute b
byte_reported n (InOsc s) b =
    if ends_osc b then Osc (osc_pieces n s) (b == 0x07) ∷ reported is_abort Execute b else []
byte_reported n (InHook h) b =
    if ends_header b then (if is_abort b then Execute b ∷ []
    else (if is_well_formed h then Hook (kept_groups h) (kept_intermediates h) (overflows h) b ∷ [] else []))
    else []
byte_reported n InDevice b =
    if ends_device b then Unhook ∷ reported is_abort Execute b else reported is_put Put b
byte_reported n InSwallowed b = reported is_abort Execute b

abbrev pub byte_rest : Pending → ℕ → Pending
byte_rest (InText u) b = InText (text_rest u b)
byte_rest (InEscape is) b =
    if ends_escape b then (if is_abort b then InText [] else final_rest is b)
    else InEscape (is ++ kept is_intermediate b)
byte_rest (InCsi h) b = if ends_header b then InText [] else InCsi (h ++ kept is_header b)
byte_rest (InOsc s) b = if ends_osc b then InText [] else InOsc (s ++ kept (λ c. not (is_control c)) b)
byte_rest (InHook h) b =
    if ends_header b then (if is_abort b then InText [] else (if is_well_formed h then InDevice else InSwallowed))
    else InHook (h ++ kept is_header b)
byte_rest InDevice b = if ends_device b then InText [] else InDevice
byte_rest InSwallowed b = if is_abort b then InText [] else InSwallowed

-- the events of a byte, and what is pending after it
abbrev pub events_of_byte : ℕ → Pending → ℕ → List Event
events_of_byte n q b = if is_esc b then closed n q else byte_reported n q b

abbrev pub after_byte : Pending → ℕ → Pending
after_byte q b = if is_esc b then InEscape [] else byte_rest q b

-- the events of several bytes, and what is pending after them
abbrev pub events_from : ℕ → Pending → List ℕ → List Event
events_from n q [] = []
events_from n q (b ∷ bs) = events_of_byte n q b ++ events_from n (after_byte q b) bs

abbrev pub after_bytes : Pending → List ℕ → Pending
after_bytes q [] = q
after_bytes q (b ∷ bs) = after_bytes (after_byte q b) bs

-- what is pending after all the bytes so far
abbrev pub pending : List ℕ → Pending
pending past = after_bytes (InText []) past

-- the bytes begin a character and are not yet the whole of it
abbrev pub IsUnfinished : List ℕ → Type 0
IsUnfinished [] = Unit {0}
IsUnfinished (a ∷ t) = (tail_len (char_len a - 1) (second_min a) (second_max a) t ≡ length t)
    × (length t + 1 < char_len a)

abbrev pub IsSound : Pending → Type 0
IsSound (InText u) = IsUnfinished u
IsSound (InEscape is) = Unit {0}
IsSound (InCsi h) = Unit {0}
IsSound (InOsc s) = Unit {0}
IsSound (InHook h) = Unit {0}
IsSound InDevice = Unit {0}
IsSound InSwallowed = Unit {0}

abbrev pub whole_goes_on : List ℕ → ℕ → Bool
whole_goes_on [] b = false
whole_goes_on (a ∷ t) b = goes_on a t b

-- the first two bytes begin a character of two bytes or more
pub record BeginsLong (bs : List ℕ) : Type 0 where
  pub some : 1 < length bs
  pub begun : 1 < char_len (slice_index bs 0)
  pub goes_on : goes_on (slice_index bs 0) [] (slice_index bs 1) ≡ true

-- the bytes are a whole character
abbrev pub IsWhole : List ℕ → Type 0
IsWhole [] = ⊥
IsWhole (a ∷ t) = (tail_len (char_len a - 1) (second_min a) (second_max a) t ≡ length t) × (length t + 1 ≡ char_len a)

abbrev pub code_of : List ℕ → ℕ
code_of [] = 0
code_of (a ∷ t) = joined (first_bits a) t
