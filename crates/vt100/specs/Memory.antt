-- Where an event may take memory. Nowhere else a screen may fail.
use Rattle.std.specs.Prelude.{ℕ, ◌-◌, ◌^◌, ◌==◌, Bool, false, not, ◌&&◌, ◌||◌, nat_lt, nat_le, nat_eq, List, [], ◌∷◌}
use Rattle.std.specs.Prelude.{length}
use Rattle.std.specs.Int.{is_in_range}
use Rattle.std.specs.List.{list_any}
use Rattle.vte_core.specs.Event.{Event, Print, Execute, Hook, Put, Unhook, Osc, Csi, Esc}
use Rattle.screen_model.specs.State.{State, alternate_sheet}
use Rattle.screen_model.specs.Step.{typed, line_fed}
use Rattle.screen_model.specs.Lookup.{lookup}
use Rattle.screen_model.specs.Effect.{effect, is_unhandled, plain_effect, plain_rows}

-- a change of s into t keeps a row: the shown sheet keeps rows, and one scrolls off at its top. A count at its
-- maximum doesn't say whether one does.
abbrev pub keeps_row : State → State → Bool
keeps_row s t =
    nat_lt 0 s.shown.kept.capacity && (not (t.shown.kept.scrolled_off == s.shown.kept.scrolled_off)
    || nat_le (2 ^ 64 - 1) s.shown.kept.scrolled_off)

-- the alternate sheet, which gets its rows when it is first shown, has none yet
abbrev pub is_unused : State → Bool
is_unused s = length (alternate_sheet s).rows == 0

-- the private modes that show it: 47 and 1049
abbrev pub shows_alternate : List ℕ → Bool
shows_alternate (n ∷ []) = nat_eq n 47 || nat_eq n 1049
shows_alternate ns = false

-- private modes are set
abbrev pub modes_may_allocate : List (List ℕ) → State → Bool
modes_may_allocate gs s = list_any shows_alternate gs && is_unused s

-- LF, VT, FF
abbrev pub control_may_allocate : ℕ → State → Bool
control_may_allocate b s = is_in_range 10 12 b && keeps_row s (line_fed s).state

-- SU and REP; after `?` the setting of modes
abbrev pub plain_may_allocate : List (List ℕ) → ℕ → State → Bool
plain_may_allocate gs b s =
    (nat_eq b 0x53 || nat_eq b 0x62) && keeps_row s (plain_effect (lookup b plain_rows) gs b s).state

abbrev pub private_may_allocate : List (List ℕ) → ℕ → State → Bool
private_may_allocate gs b s = nat_eq b 0x68 && modes_may_allocate gs s

abbrev pub csi_may_allocate : List (List ℕ) → List ℕ → ℕ → State → Bool
csi_may_allocate gs [] b s = plain_may_allocate gs b s
csi_may_allocate gs (m ∷ ms) b s = nat_eq m 0x3F && private_may_allocate gs b s

-- an event, in this state
abbrev pub may_allocate : Event → State → Bool
may_allocate (Print c) s = not (is_unhandled c) && keeps_row s (typed c s).state
may_allocate (Execute b) s = control_may_allocate b s
may_allocate (Hook gs ms ignore b) s = false
may_allocate (Put b) s = false
may_allocate Unhook s = false
may_allocate (Osc ps bell) s = false
may_allocate (Csi gs ms ignore b) s = csi_may_allocate gs ms b s
may_allocate (Esc ms ignore b) s = false

-- one of some events, each in the state that those before it make
abbrev pub some_may_allocate : List Event → State → Bool
some_may_allocate [] s = false
some_may_allocate (e ∷ es) s = may_allocate e s || some_may_allocate es (effect e s).state
