-- The calls of a terminal's callbacks.
use Rattle.std.specs.Prelude.{◌≡◌, ℕ, Bool, List, [], ◌∷◌, Option}
use Rattle.vt100_rows.specs.Row.{RowView}
use Rattle.screen_model.specs.State.{State}
use Rattle.screen_model.specs.Step.{Report}

-- a call: the method's name, and its arguments in order
pub data Call : Type 0 where
  audible_bell : Call
  visual_bell : Call
  -- rows and columns
  resize : ℕ → ℕ → Call
  set_window_icon_name : List ℕ → Call
  set_window_title : List ℕ → Call
  -- which clipboards, and the data in base64
  copy_to_clipboard : List ℕ → List ℕ → Call
  paste_from_clipboard : List ℕ → Call
  unhandled_char : ℕ → Call
  unhandled_control : ℕ → Call
  -- the first two intermediates, and the final byte
  unhandled_escape : Option ℕ → Option ℕ → ℕ → Call
  -- the first two intermediates, the parameters, and the final byte
  unhandled_csi : Option ℕ → Option ℕ → List (List ℕ) → ℕ → Call
  unhandled_osc : List (List ℕ) → Call

-- a screen: its state, and whether an allocation has failed in the middle of a change
pub record ScreenView : Type 0 where
  pub state : State
  pub failed : Bool

-- The callbacks c, which borrow the screen v, receive these calls, in order and each once, and are then d and w; `step`
-- says what one call does.
abbrev pub Calls : {C : Type 0} → (C → ScreenView → Call → C → ScreenView → Type 0) → C → ScreenView → List Call → C
    → ScreenView → Type 0
Calls step c v [] d w = (c ≡ d) × (v ≡ w)
Calls {C} step c v (k ∷ ks) d w = (b : C) × (u : ScreenView) × step c v k b u × Calls step b u ks d w

-- The callbacks c receive reports of these rows, in order and each once, and are then d; `scrolls` says what one report
-- does.
abbrev pub Receives : {C : Type 0} → (C → RowView → Bool → C → Type 0) → C → List Report → C → Type 0
Receives scrolls c [] d = c ≡ d
Receives {C} scrolls c (r ∷ rs) d = (b : C) × scrolls c r.row r.alternate b × Receives scrolls b rs d
