-- What calls do to a screen, and how they are refused.
use Rattle.std.specs.Prelude.{◌≡◌, ◌⊎◌, ◌≤◌, ℕ, Bool, true, false, List, ◌++◌, Result, Err, OnOk, IfOk, IsOk}
use Rattle.std.specs.Prelude.{if◌then◌else◌}
use Rattle.vt100_rows.specs.Row.{RowView}
use Rattle.vt100_core.specs.Grid.{SameLimits}
use Rattle.vt100_core.specs.Scroll.{ScrollsNoneOff}
use Rattle.vt100_core.specs.Resize.{KeepsNoMore, resized}
use Rattle.screen_model.specs.State.{State, main_sheet, alternate_sheet}
use Rattle.screen_model.specs.Step.{Stepped, Partly, Report}
use Rattle.screen_model.specs.Call.{ScreenView, Receives}
use Rattle.vt100.specs.declared.error.ScreenError.{ScreenError}
use Rattle.vt100.specs.declared.error.ScreenError.TheVariants.{Memory, Failed}
use Rattle.vt100.specs.declared.screen.wrapped.WrappedScreen.{WrappedScreen}

-- a screen in this state, which hasn't failed
abbrev pub alive : State → ScreenView
alive s = record { state = s; failed = false }

-- f changes the state; a failed screen stays as it is
abbrev pub unless_failed : (State → State) → ScreenView → ScreenView
unless_failed f v = if v.failed then v else alive (f v.state)

-- A call that can't be refused: f changes the state, unless the screen has failed. The callbacks aren't called.
pub record Changes {C : Type 0} (f : State → State) (old new : WrappedScreen C) : Type 0 where
  pub screen : new.screen ≡ unless_failed f old.screen
  pub callbacks : new.callbacks ≡ old.callbacks

-- two states in which each sheet has the same size and the same capacity
pub record SameBounds (s t : State) : Type 0 where
  pub main : SameLimits (main_sheet s) (main_sheet t)
  pub alternate : SameLimits (alternate_sheet s) (alternate_sheet t)

-- callbacks c have got a prefix of these rows, which can be all of them, and nothing else, and are d
abbrev pub ReceivesPrefix : {C : Type 0} → (C → RowView → Bool → C → Type 0) → C → List Report → C → Type 0
ReceivesPrefix scrolls c rows d =
    (prefix : List Report) × (rest : List Report) × (rows ≡ prefix ++ rest) × Receives scrolls c prefix d

-- A refused resize of a state s, which is then t, has stopped at the sheet whose allocation failed: the main one, and
-- the alternate one is as it was; or the alternate one, and the main one has the new size.
abbrev pub Stops : ℕ → ℕ → State → State → Type 0
Stops rows cols s t =
    (alternate_sheet t ≡ alternate_sheet s) ⊎ (main_sheet t ≡ (resized (main_sheet s) rows cols).grid)

-- A call that may be refused, of a screen v and callbacks c that are then w and d. It does f, and reports the rows
-- that leave to the callbacks. If an allocation fails, the screen has failed, and they got only a prefix of these
-- rows. A failed screen refuses the call, and nothing changes.
pub record Tries {C A : Type 0} (scrolls : C → RowView → Bool → C → Type 0) (f : State → Stepped)
    (v : ScreenView) (c : C) (result : Result A ScreenError) (w : ScreenView) (d : C) : Type 0 where
  pub live : OnOk result (v.failed ≡ false)
  pub screen : OnOk result (w ≡ alive (f v.state).state)
  pub receives : OnOk result (Receives scrolls c (f v.state).reports d)
  pub memory : result ≡ Err Memory → w.failed ≡ true
  pub reported : result ≡ Err Memory → ReceivesPrefix scrolls c (f v.state).reports d
  pub refused : result ≡ Err Failed → v.failed ≡ true
  pub dead : v.failed ≡ true → (result ≡ Err Failed) × (w ≡ v) × (d ≡ c)

-- A call that does f, by which rows may leave a sheet: the sheets keep their sizes, and memory is refused only where
-- rows scroll off that are kept.
pub record MayScroll {C : Type 0} (scrolls : C → RowView → Bool → C → Type 0) (f : State → Stepped)
    (old : WrappedScreen C) (result : Result (Unit {0}) ScreenError) (new : WrappedScreen C) : Type 0 where
  pub tries : Tries scrolls f old.screen old.callbacks result new.screen new.callbacks
  pub bounds : SameBounds old.screen.state new.screen.state
  pub keeps_none : old.screen.failed ≡ false → old.screen.state.shown.kept.capacity ≡ 0 → IsOk result
  pub stays : old.screen.failed ≡ false
      → ScrollsNoneOff old.screen.state.shown (f old.screen.state).state.shown → IsOk result

-- A call that gives a screen and its sheets another size, as f does. A refused one says where it has stopped, and the
-- same size isn't refused.
pub record Resizes {C : Type 0} (scrolls : C → RowView → Bool → C → Type 0) (f : State → Stepped) (rows cols : ℕ)
    (v : ScreenView) (c : C) (result : Result (Unit {0}) ScreenError) (w : ScreenView) (d : C) : Type 0 where
  pub tries : Tries scrolls f v c result w d
  pub stops : result ≡ Err Memory → Stops rows cols v.state w.state
  pub same : v.failed ≡ false → rows ≡ v.state.shown.height → cols ≡ v.state.shown.width → IsOk result

-- a size that takes no memory: the screen gets no wider and no higher, and keeps no further row
abbrev pub TakesNone : ℕ → ℕ → State → Type 0
TakesNone rows cols s = (rows ≤ s.shown.height) × (cols ≤ s.shown.width) × KeepsNoMore (main_sheet s) rows

-- A call that can't be refused, but of which parts can be unknown; the result says how many were. A failed screen
-- stays as it is, and the result is 0.
pub record Counts {C : Type 0} (scrolls : C → RowView → Bool → C → Type 0) (f : State → Partly)
    (v : ScreenView) (c : C) (unhandled : ℕ) (w : ScreenView) (d : C) : Type 0 where
  pub screen : v.failed ≡ false → w ≡ alive (f v.state).state
  pub receives : v.failed ≡ false → Receives scrolls c (f v.state).reports d
  pub count : v.failed ≡ false → unhandled ≡ (f v.state).unhandled
  pub dead : v.failed ≡ true → (w ≡ v) × (d ≡ c) × (unhandled ≡ 0)

-- A call that may be refused, and of which parts can be unknown; at success the result says how many were.
pub record TriesParts {C : Type 0} (scrolls : C → RowView → Bool → C → Type 0) (f : State → Partly)
    (v : ScreenView) (c : C) (result : Result ℕ ScreenError) (w : ScreenView) (d : C) : Type 0 where
  pub tries : Tries scrolls (λ s. record { state = (f s).state; reports = (f s).reports }) v c result w d
  pub count : IfOk result (λ n. n ≡ (f v.state).unhandled)

-- A call of a screen v that is then w, and that may be refused: the same without callbacks.
pub record TriesAlone (f : State → State) (v : ScreenView) (result : Result (Unit {0}) ScreenError)
    (w : ScreenView) : Type 0 where
  pub live : OnOk result (v.failed ≡ false)
  pub screen : OnOk result (w ≡ alive (f v.state))
  pub memory : result ≡ Err Memory → w.failed ≡ true
  pub refused : result ≡ Err Failed → v.failed ≡ true
  pub dead : v.failed ≡ true → (result ≡ Err Failed) × (w ≡ v)
