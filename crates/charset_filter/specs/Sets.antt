-- Which set draws what is printed, event by event.
use Rattle.std.specs.Prelude.{ℕ, Bool, true, false, List, [], ◌∷◌, ◌==◌, ◌&&◌, ◌||◌, if◌then◌else◌, Option, Some, None}
use Rattle.vte_core.specs.Event.{Event, Print, Execute, Csi, Esc}
use Rattle.vte_types.specs.Charset.{mapped}
use Rattle.vte_types.specs.declared.charset.StandardCharset.{StandardCharset}
use Rattle.vte_types.specs.declared.charset.StandardCharset.TheVariants.{Ascii, SpecialCharacterAndLineDrawing}
use Rattle.vte_types.specs.declared.charset.CharsetIndex.{CharsetIndex}
use Rattle.vte_types.specs.declared.charset.CharsetIndex.TheVariants.{G0, G1, G2, G3}
use Rattle.charset_filter.specs.declared.sets.Designations.{Designations}
use Rattle.charset_filter.specs.declared.sets.CharacterSets.{CharacterSets}

-- the set of G0 to G3
abbrev pub set_at : Designations → CharsetIndex → StandardCharset
set_at d G0 = d.g0
set_at d G1 = d.g1
set_at d G2 = d.g2
set_at d G3 = d.g3

abbrev pub designated : Designations → CharsetIndex → StandardCharset → Designations
designated d G0 x = record d { g0 = x }
designated d G1 x = record d { g1 = x }
designated d G2 x = record d { g2 = x }
designated d G3 x = record d { g3 = x }

-- ASCII everywhere, G0 locked
abbrev pub ascii : Designations
ascii = record { g0 = Ascii; g1 = Ascii; g2 = Ascii; g3 = Ascii; locked = G0 }

-- with the main screen shown
abbrev pub first_sets : CharacterSets
first_sets = record {
  current = ascii;
  single = None;
  alternate = false;
  main_saved = ascii;
  alternate_saved = ascii;
}

-- the set that is locked
abbrev pub locked_set : Designations → StandardCharset
locked_set d = set_at d d.locked

abbrev pub set_for : Designations → Option CharsetIndex → StandardCharset
set_for d None = locked_set d
set_for d (Some i) = set_at d i

-- the set that draws the next character
abbrev pub drawing_set : CharacterSets → StandardCharset
drawing_set s = set_for s.current s.single

abbrev pub locking : CharacterSets → CharsetIndex → CharacterSets
locking s i = record s { current = record s.current { locked = i } }

abbrev pub designating : CharacterSets → CharsetIndex → StandardCharset → CharacterSets
designating s i x = record s { current = designated s.current i x }

-- DECSC and DECRC: each of the two screens has saved sets of its own
abbrev pub saved : CharacterSets → CharacterSets
saved s = if s.alternate then record s { alternate_saved = s.current } else record s { main_saved = s.current }

abbrev pub restored : CharacterSets → CharacterSets
restored s = record s { current = if s.alternate then s.alternate_saved else s.main_saved }

-- the alternate screen is shown, or the main one
abbrev pub showing : Bool → CharacterSets → CharacterSets
showing alternate s = record s { alternate = alternate }

-- DECSTR: ASCII, and that saved
abbrev pub reset_softly : CharacterSets → CharacterSets
reset_softly s = saved (record s { current = ascii; single = None })

-- the set that a final byte names after one intermediate; after more than one it never names the line drawing set
abbrev pub set_of : List ℕ → ℕ → StandardCharset
set_of [] f = if f == 0x30 then SpecialCharacterAndLineDrawing else Ascii
set_of (i ∷ is) f = Ascii

-- an escape without intermediates: DECSC, DECRC, RIS, SS2, SS3, LS2, LS3
abbrev pub after_unmarked_escape : CharacterSets → ℕ → CharacterSets
after_unmarked_escape s f =
    if f == 0x37 then saved s
    else (if f == 0x38 then restored s
    else (if f == 0x63 then first_sets
    else (if f == 0x4E then record s { single = Some G2 }
    else (if f == 0x4F then record s { single = Some G3 }
    else (if f == 0x6E then locking s G2
    else (if f == 0x6F then locking s G3 else s))))))

-- an escape with intermediates: SCS
abbrev pub after_escape : CharacterSets → List ℕ → ℕ → CharacterSets
after_escape s [] f = after_unmarked_escape s f
after_escape s (i ∷ is) f =
    if i == 0x28 then designating s G0 (set_of is f)
    else (if i == 0x29 then designating s G1 (set_of is f)
    else (if i == 0x2A then designating s G2 (set_of is f)
    else (if i == 0x2B then designating s G3 (set_of is f) else s)))

-- private modes, set or reset: 47 and 1047 show the other screen, 1048 saves and restores, and 1049 does both
abbrev pub after_mode : Bool → CharacterSets → List ℕ → CharacterSets
after_mode set s (m ∷ []) =
    if m == 47 || m == 1047 then showing set s
    else (if m == 1048 then (if set then saved s else restored s)
    else (if m == 1049 then (if set then showing true (saved s) else restored (showing false s)) else s))
after_mode set s ms = s

abbrev pub after_modes : Bool → CharacterSets → List (List ℕ) → CharacterSets
after_modes set s [] = s
after_modes set s (g ∷ gs) = after_modes set (after_mode set s g) gs

-- a control sequence with one intermediate: DECSTR, DECSET, DECRST
abbrev pub after_control_sequence : CharacterSets → List (List ℕ) → ℕ → ℕ → CharacterSets
after_control_sequence s groups i f =
    if i == 0x21 && f == 0x70 then reset_softly s
    else (if i == 0x3F && f == 0x68 then after_modes true s groups
    else (if i == 0x3F && f == 0x6C then after_modes false s groups else s))

-- no parameter is given, or 0 alone
abbrev pub is_bare : List (List ℕ) → Bool
is_bare ((n ∷ []) ∷ []) = n == 0
is_bare groups = false

-- one without intermediates: SCOSC and SCORC, if it has no parameter
abbrev pub after_plain_sequence : CharacterSets → Bool → ℕ → CharacterSets
after_plain_sequence s bare f =
    if bare && f == 0x73 then saved s else (if bare && f == 0x75 then restored s else s)

abbrev pub after_csi : CharacterSets → List (List ℕ) → List ℕ → ℕ → CharacterSets
after_csi s groups [] f = after_plain_sequence s (is_bare groups) f
after_csi s groups (i ∷ []) f = after_control_sequence s groups i f
after_csi s groups is f = s

-- SO and SI
abbrev pub after_control : CharacterSets → ℕ → CharacterSets
after_control s b = if b == 0x0E then locking s G1 else (if b == 0x0F then locking s G0 else s)

-- the sets after an event
abbrev pub after_event : CharacterSets → Event → CharacterSets
after_event s (Print c) = record s { single = None }
after_event s (Execute b) = after_control s b
after_event s (Csi groups is many f) = after_csi s groups is f
after_event s (Esc is many f) = after_escape s is f
after_event s e = s

abbrev pub after_events : CharacterSets → List Event → CharacterSets
after_events s [] = s
after_events s (e ∷ es) = after_events (after_event s e) es

-- an event as it is shown: a printed character as its set draws it
abbrev pub shown : CharacterSets → Event → Event
shown s (Print c) = Print (mapped (drawing_set s) c)
shown s e = e
