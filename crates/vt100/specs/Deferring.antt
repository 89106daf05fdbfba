-- A screen on which the erasing of the cursor's row from the cursor on is put off.
use Rattle.std.specs.Prelude.{◌≡◌, ℕ, Bool, ◌||◌, nat_eq, List, Option, Some, None}
use Rattle.std.specs.Int.{is_in_range}
use Rattle.vt100_forms.specs.declared.attrs.Attrs.{Attrs}
use Rattle.vte_core.specs.Event.{Event}
use Rattle.vt100_rows.specs.Row.{RowView}
use Rattle.vt100_core.specs.Erase.{columns_erased}
use Rattle.screen_model.specs.State.{State}
use Rattle.screen_model.specs.Step.{with_shown}
use Rattle.screen_model.specs.Sgr.{sgr_read}
use Rattle.screen_model.specs.Call.{Call, ScreenView}
use Rattle.screen_model.specs.Effect.{Effect, effect}
use Rattle.vt100.specs.declared.screen.wrapped.WrappedScreen.{WrappedScreen}
use Rattle.vt100.specs.declared.screen.deferring.Deferring.{Deferring}
use Rattle.vt100.specs.Goes.{Does}
use Rattle.vt100.specs.Memory.{may_allocate}

-- the cursor's row is empty from the cursor on, with these attributes
abbrev pub erased_by : Attrs → State → State
erased_by a s = with_shown s (columns_erased s.shown s.shown.col s.shown.width a)

abbrev pub erased_on : Attrs → ScreenView → ScreenView
erased_on a v = record { state = erased_by a v.state; failed = v.failed }

-- the screen once the erasing that is put off is done, if there is one
abbrev pub erased_late : Option Attrs → ScreenView → ScreenView
erased_late None v = v
erased_late (Some a) v = erased_on a v

-- a screen with its callbacks once what is put off is done
abbrev pub settled : {C : Type 0} → Deferring C → WrappedScreen C
settled d = record { screen = erased_late d.erasing d.screen.now.screen; callbacks = d.screen.now.callbacks }

-- what an action with the effect f does to a screen with its callbacks, whether or not something is put off; it may
-- allocate where `takes` says so
abbrev pub DefersEffect : {C : Type 0} → (C → ScreenView → Call → C → ScreenView → Type 0)
    → (C → RowView → Bool → C → Type 0) → (State → Effect) → (State → Bool) → Deferring C → Deferring C → Type 0
DefersEffect step scrolls f takes p q =
    Does step scrolls f (takes (settled p).screen.state) (settled p).callbacks (settled p).screen (settled q).callbacks
    (settled q).screen × (q.screen.ghost_name ≡ p.screen.ghost_name)

-- an event
abbrev pub Defers : {C : Type 0} → (C → ScreenView → Call → C → ScreenView → Type 0)
    → (C → RowView → Bool → C → Type 0) → Deferring C → Event → Deferring C → Type 0
Defers step scrolls p e q = DefersEffect step scrolls (effect e) (may_allocate e) p q

-- the numbers of SGR that are asked for most: none, bold, and the eight colours
abbrev pub is_frequent : ℕ → Bool
is_frequent n = nat_eq n 0 || nat_eq n 1 || is_in_range 30 37 n

-- each group of an SGR is handled
abbrev pub AreHandled : List (List ℕ) → Type 0
AreHandled gs = (a : Attrs) → (sgr_read gs a).unhandled ≡ 0
