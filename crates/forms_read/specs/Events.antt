-- The events that a parser makes of each form's bytes.
use Rattle.std.specs.Prelude.{ℕ, ◌+◌, ◌==◌, ◌&&◌, true, false, min, List, [], ◌∷◌, map, if◌then◌else◌}
use Rattle.std.specs.List.{flat_map}
use Rattle.vt100_forms.specs.Form.{Form, Text, MoveTo, MoveRight, EraseChar, ClearRowForward, ClearScreen, ClearAttrs}
use Rattle.vt100_forms.specs.Form.{Crlf, Lf, Backspace, SaveCursor, RestoreCursor, HideCursor, Keypad, CursorKeys}
use Rattle.vt100_forms.specs.Form.{Paste, Mouse, Encoding, Style, Sgr, mouse_number, encoding_number, style_number}
use Rattle.vt100_forms.specs.Form.{sgr_numbers}
use Rattle.vte_core.specs.Event.{Event, Print, Execute, Csi, Esc}

-- a parser keeps a number up to 65,535, and 65,535 for a greater one
abbrev pub kept_number : ℕ → ℕ
kept_number n = min 65535 n

-- a control sequence (CSI) with these numbers, intermediate bytes and final byte; each number is a parameter without
-- subparameters
abbrev pub sequence : List ℕ → List ℕ → ℕ → Event
sequence between numbers final = Csi (map (λ n. kept_number n ∷ []) numbers) between false final

-- a control sequence without numbers is read as if it had a 0
abbrev pub bare : ℕ → Event
bare final = sequence [] (0 ∷ []) final

-- a control sequence with a count: a count of 1 is sent without a number, and a count of 0 isn't sent
abbrev pub counted_events : ℕ → ℕ → List Event
counted_events n final =
    if n == 0 then []
    else if n == 1 then bare final ∷ []
    else sequence [] (n ∷ []) final ∷ []

-- a private mode is set, and reset
abbrev pub set_event : ℕ → Event
set_event n = sequence (0x3F ∷ []) (n ∷ []) 0x68

abbrev pub reset_event : ℕ → Event
reset_event n = sequence (0x3F ∷ []) (n ∷ []) 0x6C

-- The change from one mode to another, by their numbers. The new mode is set; if it is 0, the default, the earlier mode
-- is reset instead.
abbrev pub mode_steps : {S : Type 0} → (ℕ → S) → (ℕ → S) → ℕ → ℕ → List S
mode_steps set reset to from =
    if to == from then []
    else if to == 0 then reset from ∷ []
    else set to ∷ []

abbrev pub mode_events : ℕ → ℕ → List Event
mode_events = mode_steps set_event reset_event

abbrev pub sgr_events : List ℕ → List Event
sgr_events [] = []
sgr_events (n ∷ ns) = sequence [] (n ∷ ns) 0x6D ∷ []

-- the events of a form
abbrev pub events_of : Form → List Event
events_of (Text cs) = map Print cs
events_of (MoveTo r c) =
    if (r == 0) && (c == 0) then bare 0x48 ∷ []
    else sequence [] ((r + 1) ∷ (c + 1) ∷ []) 0x48 ∷ []
events_of (MoveRight n) = counted_events n 0x43
events_of (EraseChar n) = counted_events n 0x58
events_of ClearRowForward = bare 0x4B ∷ []
events_of ClearScreen = bare 0x48 ∷ bare 0x4A ∷ []
events_of ClearAttrs = bare 0x6D ∷ []
events_of Crlf = Execute 0x0D ∷ Execute 0x0A ∷ []
events_of Lf = Execute 0x0A ∷ []
events_of Backspace = Execute 0x08 ∷ []
events_of SaveCursor = Esc [] false 0x37 ∷ []
events_of RestoreCursor = Esc [] false 0x38 ∷ []
events_of (HideCursor true) = reset_event 25 ∷ []
events_of (HideCursor false) = set_event 25 ∷ []
events_of (Keypad true) = Esc [] false 0x3D ∷ []
events_of (Keypad false) = Esc [] false 0x3E ∷ []
events_of (CursorKeys true) = set_event 1 ∷ []
events_of (CursorKeys false) = reset_event 1 ∷ []
events_of (Paste true) = set_event 2004 ∷ []
events_of (Paste false) = reset_event 2004 ∷ []
events_of (Mouse to from) = mode_events (mouse_number to) (mouse_number from)
events_of (Encoding to from) = mode_events (encoding_number to) (encoding_number from)
events_of (Style to from) =
    if style_number to == style_number from then []
    else sequence (0x20 ∷ []) (style_number to ∷ []) 0x71 ∷ []
events_of (Sgr c) = sgr_events (sgr_numbers c)

-- the events of a list of forms
abbrev pub events_of_all : List Form → List Event
events_of_all fs = flat_map events_of fs
