-- The bytes behind an event. They make a screen do what a terminal does at the event, if `vt100` doesn't know it.
use Rattle.std.specs.Prelude.{ℕ, Bool, true, false, List, [], ◌∷◌, ◌++◌, ◌==◌, ◌&&◌, ◌||◌, if◌then◌else◌, codes, nat_lt}
use Rattle.std.specs.Int.{is_in_range}
use Rattle.std.specs.List.{flat_map, list_all}
use Rattle.vte_core.specs.Event.{Event, Csi, Esc}
use Rattle.vte_core.specs.ParamsText.{groups_text}
use Rattle.vte_core.specs.Shapes.{events}
use Rattle.charset_filter.specs.Sets.{after_event, after_mode, is_bare, shown}
use Rattle.charset_filter.specs.declared.sets.CharacterSets.{CharacterSets}

-- ESC and what follows it, and a control sequence
abbrev pub esc : List ℕ → List ℕ
esc text = 0x1B ∷ text

abbrev pub csi : List ℕ → List ℕ
csi text = 0x1B ∷ 0x5B ∷ text

-- DECSC and DECRC
abbrev pub save : List ℕ
save = esc (codes "7")

abbrev pub restore : List ℕ
restore = esc (codes "8")

-- ---- SGR

-- 38 sets the foreground colour, 48 the background colour
abbrev pub is_color : ℕ → Bool
is_color n = n == 38 || n == 48

-- a group that `vt100` reads: a number, or a colour with its index or its three parts
abbrev pub is_known : List ℕ → Bool
is_known (n ∷ []) = true
is_known (n ∷ k ∷ index ∷ []) = is_color n && k == 5
is_known (n ∷ k ∷ red ∷ green ∷ blue ∷ []) = is_color n && k == 2
is_known group = false

-- each part of a colour is below 256
abbrev pub are_parts : ℕ → ℕ → ℕ → Bool
are_parts red green blue = nat_lt red 256 && (nat_lt green 256 && nat_lt blue 256)

-- The group in place of one that `vt100` doesn't read. A kind of underline becomes an underline, kind 0 becomes no
-- underline, and a colour loses the name of its colour space. For any other group there isn't one.
abbrev pub replaced : List ℕ → List (List ℕ)
replaced (n ∷ k ∷ []) =
    if n == 4 && k == 0 then (24 ∷ []) ∷ [] else (if n == 4 && is_in_range 1 5 k then (4 ∷ []) ∷ [] else [])
replaced (n ∷ k ∷ space ∷ red ∷ green ∷ blue ∷ []) =
    if is_color n && (k == 2 && are_parts red green blue) then (n ∷ k ∷ red ∷ green ∷ blue ∷ []) ∷ [] else []
replaced group = []

abbrev pub as_known : List ℕ → List (List ℕ)
as_known group = if is_known group then group ∷ [] else replaced group

-- SGR with these groups; if there are no groups, no bytes: SGR without a group would reset all
abbrev pub sgr : List (List ℕ) → List ℕ
sgr [] = []
sgr (group ∷ groups) = csi (groups_text (group ∷ groups) ++ codes "m")

-- All groups once more, since a later one may undo an earlier one. Each sets what it names, whatever was set before, so
-- a group that is read twice does what it does once.
abbrev pub sgr_behind : List (List ℕ) → List ℕ
sgr_behind groups = if list_all is_known groups then [] else sgr (flat_map as_known groups)

-- ---- private modes

-- 1047 is mode 47, but the alternate screen is cleared as it is left; 1048 saves and restores
abbrev pub mode_behind : Bool → CharacterSets → List ℕ → List ℕ
mode_behind set s (m ∷ []) =
    if m == 1047 then
    (if set then csi (codes "?47h")
    else (if s.alternate then csi (codes "?47h") ++ (csi (codes "2J") ++ csi (codes "?47l")) else []))
    else (if m == 1048 then (if set then save else restore) else [])
mode_behind set s group = []

abbrev pub modes_behind : Bool → CharacterSets → List (List ℕ) → List ℕ
modes_behind set s [] = []
modes_behind set s (g ∷ gs) = mode_behind set s g ++ modes_behind set (after_mode set s g) gs

-- ---- other sequences

-- IND and NEL: LF, and CR LF
abbrev pub escape_behind : List ℕ → ℕ → List ℕ
escape_behind [] f = if f == 0x44 then codes "\n" else (if f == 0x45 then codes "\r\n" else [])
escape_behind is f = []

-- DECSTR: attributes, cursor, keys and region as at the start, and the cursor where it was
abbrev pub soft_reset : List ℕ
soft_reset = csi (codes "m") ++ (csi (codes "?25h") ++ (csi (codes "?1l") ++ (esc (codes ">")
    ++ (save ++ (csi (codes "r") ++ restore)))))

-- without intermediates: SGR, if no number was dropped; DECSTBM, which homes the cursor; SCOSC and SCORC
abbrev pub plain_behind : List (List ℕ) → Bool → ℕ → List ℕ
plain_behind groups many f =
    if f == 0x6D then (if many then [] else sgr_behind groups)
    else (if f == 0x72 then csi (codes "H")
    else (if is_bare groups && f == 0x73 then save
    else (if is_bare groups && f == 0x75 then restore else [])))

-- with one intermediate: DECSTR, DECSET, DECRST
abbrev pub marked_behind : CharacterSets → List (List ℕ) → ℕ → ℕ → List ℕ
marked_behind s groups i f =
    if i == 0x21 && f == 0x70 then soft_reset
    else (if i == 0x3F && f == 0x68 then modes_behind true s groups
    else (if i == 0x3F && f == 0x6C then modes_behind false s groups else []))

abbrev pub csi_behind : CharacterSets → List (List ℕ) → List ℕ → Bool → ℕ → List ℕ
csi_behind s groups [] many f = plain_behind groups many f
csi_behind s groups (i ∷ []) many f = marked_behind s groups i f
csi_behind s groups is many f = []

-- ---- events

-- the bytes behind an event, by the sets before it
abbrev pub behind : CharacterSets → Event → List ℕ
behind s (Csi groups is many f) = csi_behind s groups is many f
behind s (Esc is many f) = escape_behind is f
behind s e = []

-- Each event as it is shown, and after it the events of the bytes behind it. None of these is an operating system
-- command, so it makes no difference how much of one a parser keeps.
abbrev pub drawn_events : CharacterSets → List Event → List Event
drawn_events s [] = []
drawn_events s (e ∷ es) = shown s e ∷ (events 0 (behind s e) ++ drawn_events (after_event s e) es)

-- all bytes behind events
abbrev pub all_behind : CharacterSets → List Event → List ℕ
all_behind s [] = []
all_behind s (e ∷ es) = behind s e ++ all_behind (after_event s e) es
