-- What is given for bytes.
use Rattle.std.specs.Prelude.{ℕ, Bool, List, [], ◌∷◌, ◌++◌, Option, Some, None, if◌then◌else◌}
use Rattle.std.specs.Char.{encode_utf8}
use Rattle.std.specs.Int.{is_in_range}
use Rattle.vte_core.specs.Event.{Event, Print}
use Rattle.vte_core.specs.Pending.{Pending, after_byte, events_of_byte, pending}
use Rattle.vte_core.specs.Shapes.{events}
use Rattle.vte_types.specs.Charset.{mapped}
use Rattle.charset_filter.specs.Sets.{after_event, after_events, drawing_set, first_sets}
use Rattle.charset_filter.specs.Behind.{behind}
use Rattle.charset_filter.specs.declared.sets.CharacterSets.{CharacterSets}

-- `_` to `~`, which have other characters in the line drawing set
abbrev pub is_drawable : ℕ → Bool
is_drawable b = is_in_range 0x5F 0x7E b

-- what is drawn of the last character that the events print; if they print no character, as before
abbrev pub drawn_by : CharacterSets → Option ℕ → Event → Option ℕ
drawn_by s d (Print c) = Some (mapped (drawing_set s) c)
drawn_by s d e = d

abbrev pub last_drawn : CharacterSets → Option ℕ → List Event → Option ℕ
last_drawn s d [] = d
last_drawn s d (e ∷ es) = last_drawn (after_event s e) (drawn_by s d e) es

abbrev pub drawn_or : ℕ → Option ℕ → List ℕ
drawn_or b None = b ∷ []
drawn_or b (Some c) = encode_utf8 c

-- the byte, or in its place what is drawn of the character that it prints, if the line drawing set may have another
abbrev pub given_byte : ℕ → Option ℕ → List ℕ
given_byte b drawn = if is_drawable b then drawn_or b drawn else b ∷ []

-- the bytes behind the last of the events; if there are no events, as before
abbrev pub last_behind : CharacterSets → List ℕ → List Event → List ℕ
last_behind s bytes [] = bytes
last_behind s bytes (e ∷ es) = last_behind (after_event s e) (behind s e) es

-- Only the last event of a byte can have bytes behind it.
abbrev pub given_for : Pending → CharacterSets → ℕ → List ℕ
given_for q s b =
    let es = events_of_byte 0 q b in given_byte b (last_drawn s None es) ++ last_behind s [] es

abbrev pub given_from : Pending → CharacterSets → List ℕ → List ℕ
given_from q s [] = []
given_from q s (b ∷ bs) = given_for q s b ++ given_from (after_byte q b) (after_events s (events_of_byte 0 q b)) bs

-- the sets that the bytes make
abbrev pub sets_of : List ℕ → CharacterSets
sets_of bs = after_events first_sets (events 0 bs)

-- what bytes add after a past
abbrev pub given_after : List ℕ → List ℕ → List ℕ
given_after past bs = given_from (pending past) (sets_of past) bs

-- all that is given for a stream
abbrev pub filtered : List ℕ → List ℕ
filtered bs = given_after [] bs
