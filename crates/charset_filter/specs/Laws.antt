-- Laws of what is given.
use Rattle.std.specs.Prelude.{◌≡◌, ◌<◌, ◌≤◌, ◌^◌, length, ℕ, Bool, true, false, not, ◌&&◌, ◌==◌, List, [], ◌∷◌, ◌++◌}
use Rattle.std.specs.Int.{is_in_range}
use Rattle.std.specs.List.{AllByRecursion, concat, flat_map, list_all}
use Rattle.vte_core.specs.Event.{Event, Csi, Esc}
use Rattle.vte_core.specs.Shapes.{events}
use Rattle.charset_filter.specs.Given.{filtered, given_after}
use Rattle.charset_filter.specs.Behind.{all_behind, as_known, behind, drawn_events, is_known}
use Rattle.charset_filter.specs.Sets.{first_sets}
use Rattle.charset_filter.specs.declared.sets.CharacterSets.{CharacterSets}

-- The events of what is given are the events of what was read, each printed character as the events before it have it
-- drawn. After each event come the events of the bytes behind it. A parser may keep any number n of bytes of an
-- operating system command.
abbrev pub DrawsEvents : Type 0
DrawsEvents = (n : ℕ) (bs : List ℕ) → events n (filtered bs) ≡ drawn_events first_sets (events n bs)

-- pieces add what they give one after the other
abbrev pub GivesInOrder : Type 0
GivesInOrder = (past bs : List ℕ) → filtered (past ++ bs) ≡ filtered past ++ given_after past bs

-- a designation of the line drawing set
abbrev pub names_lines : Event → Bool
names_lines (Esc (i ∷ []) many f) = is_in_range 0x28 0x2B i && f == 0x30
names_lines e = false

abbrev pub names_none : List Event → Bool
names_none [] = true
names_none (e ∷ es) = not (names_lines e) && names_none es

-- a stream that never designates the line drawing set, and has no bytes behind its events, is given as it is
abbrev pub KeepsAscii : Type 0
KeepsAscii = (n : ℕ) (bs : List ℕ) → names_none (events n bs) ≡ true → all_behind first_sets (events n bs) ≡ []
    → filtered bs ≡ bs

-- numbers as a parser reads a group: at least one, and each below 2 ^ 16
abbrev pub IsGroup : List ℕ → Type 0
IsGroup group = (0 < length group) × AllByRecursion (λ n. n < 2 ^ 16) group

-- the groups of a control sequence: at most 32 numbers
pub record AreGroups (groups : List (List ℕ)) : Type 0 where
  pub each : AllByRecursion IsGroup groups
  pub few : length (concat groups) ≤ 32

-- SGR with these groups, if there are some
abbrev pub sgr_events : List (List ℕ) → List Event
sgr_events [] = []
sgr_events groups = Csi groups [] false 0x6D ∷ []

-- the bytes behind an SGR with a group that isn't known are one SGR, with the groups that are known in their place
abbrev pub StandsAsKnown : Type 0
StandsAsKnown = (n : ℕ) (s : CharacterSets) (groups : List (List ℕ)) → AreGroups groups
    → list_all is_known groups ≡ false
    → events n (behind s (Csi groups [] false 0x6D)) ≡ sgr_events (flat_map as_known groups)
