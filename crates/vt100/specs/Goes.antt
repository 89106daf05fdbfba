-- What events do to a screen and to its callbacks.
use Rattle.std.specs.Prelude.{◌≡◌, ◌⊎◌, Bool, true, false, List, [], ◌∷◌}
use Rattle.vte_core.specs.Event.{Event}
use Rattle.vt100_rows.specs.Row.{RowView}
use Rattle.screen_model.specs.State.{State}
use Rattle.screen_model.specs.Step.{Report}
use Rattle.screen_model.specs.Call.{Call, ScreenView, Receives}
use Rattle.screen_model.specs.Effect.{Effect, effect}
use Rattle.vt100.specs.declared.screen.wrapped.WrappedScreen.{WrappedScreen}
use Rattle.vt100.specs.Memory.{may_allocate}
use Rattle.vt100.specs.Tries.{SameBounds, ReceivesPrefix, alive}

-- P where it is so, else Q
abbrev pub Either : Bool → Type 0 → Type 0 → Type 0
Either true P Q = P
Either false P Q = Q

-- Callbacks c and the screen v that they are lent have gone through these calls, in order and each once, and are d and
-- w. `step` says what one call does; it may change the screen. Once the screen has failed no further call is made.
abbrev pub MakesCalls : {C : Type 0} → (C → ScreenView → Call → C → ScreenView → Type 0) → C → ScreenView → List Call
    → C
    → ScreenView → Type 0
MakesCalls step c v [] d w = (d ≡ c) × (w ≡ v)
MakesCalls {C} step c v (k ∷ ks) d w =
    Either v.failed ((d ≡ c) × (w ≡ v)) ((b : C) × (u : ScreenView) × step c v k b u × MakesCalls step b u ks d w)

-- an effect on callbacks c, which are then d, and on their screen, which is then w: the change is made, the rows that
-- leave are reported to c, and then the calls are made
abbrev pub Acts : {C : Type 0} → (C → ScreenView → Call → C → ScreenView → Type 0) → (C → RowView → Bool → C → Type 0)
    → C → Effect → C → ScreenView → Type 0
Acts {C} step scrolls c x d w = (b : C) × Receives scrolls c x.reports b × MakesCalls step b (alive x.state) x.calls d w

-- A change of a screen v and callbacks c in which an allocation fails, where it may allocate: the screen is then w,
-- which has failed, with sheets of the same size, and the callbacks d got only a prefix of these rows.
pub record Fails {C : Type 0} (scrolls : C → RowView → Bool → C → Type 0) (takes : Bool) (rows : List Report) (c : C)
    (v : ScreenView) (d : C) (w : ScreenView) : Type 0 where
  pub is_allocating : takes ≡ true
  pub failed : w.failed ≡ true
  pub bounds : SameBounds v.state w.state
  pub reported : ReceivesPrefix scrolls c rows d

-- What an action with the effect f does to callbacks c and a screen v, which are then d and w; it may allocate where
-- `takes` says so. On a failed screen nothing is done. Else f takes effect, or an allocation fails.
pub record Does {C : Type 0} (step : C → ScreenView → Call → C → ScreenView → Type 0)
    (scrolls : C → RowView → Bool → C → Type 0) (f : State → Effect) (takes : Bool) (c : C) (v : ScreenView) (d : C)
    (w : ScreenView) : Type 0 where
  pub dead : v.failed ≡ true → (d ≡ c) × (w ≡ v)
  pub live : v.failed ≡ false → Acts step scrolls c (f v.state) d w ⊎ Fails scrolls takes (f v.state).reports c v d w

-- the same of a screen with its callbacks
abbrev pub Handles : {C : Type 0} → (C → ScreenView → Call → C → ScreenView → Type 0)
    → (C → RowView → Bool → C → Type 0) → (State → Effect) → Bool → WrappedScreen C → WrappedScreen C → Type 0
Handles step scrolls f takes p q = Does step scrolls f takes p.callbacks p.screen q.callbacks q.screen

-- an event
abbrev pub Goes : {C : Type 0} → (C → ScreenView → Call → C → ScreenView → Type 0) → (C → RowView → Bool → C → Type 0)
    → Event → C → ScreenView → C → ScreenView → Type 0
Goes step scrolls e c v d w = Does step scrolls (effect e) (may_allocate e v.state) c v d w

-- events, one after another
abbrev pub GoesThrough : {C : Type 0} → (C → ScreenView → Call → C → ScreenView → Type 0)
    → (C → RowView → Bool → C → Type 0) → List Event → C → ScreenView → C → ScreenView → Type 0
GoesThrough step scrolls [] c v d w = (d ≡ c) × (w ≡ v)
GoesThrough {C} step scrolls (e ∷ es) c v d w =
    (b : C) × (u : ScreenView) × Goes step scrolls e c v b u × GoesThrough step scrolls es b u d w

-- an event, as what a performer does
abbrev pub Steps : {C : Type 0} → (C → ScreenView → Call → C → ScreenView → Type 0) → (C → RowView → Bool → C → Type 0)
    → WrappedScreen C → Event → WrappedScreen C → Type 0
Steps step scrolls p e q = Goes step scrolls e p.callbacks p.screen q.callbacks q.screen
