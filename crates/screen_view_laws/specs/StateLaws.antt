-- The effect of forms on a terminal's state.
use Rattle.std.specs.Prelude.{ℕ, ◌≡◌, ◌<◌, ◌^◌, true, List, [], ◌∷◌, ◌++◌}
use Rattle.std.specs.List.{AllByRecursion}
use Rattle.vte_core.specs.Ground.{AtGround}
use Rattle.vt100_forms.specs.Form.{Form, bytes_of}
use Rattle.terminal_model.specs.FormText.{IsForm, IsSentForm}
use Rattle.terminal_model.specs.Term.{Term, blank_term}
use Rattle.terminal_model.specs.Apply.{apply, run}
use Rattle.forms_read.specs.Events.{events_of, events_of_all}
use Rattle.screen_model.specs.State.{State, IsState, is_plain, fresh_state}
use Rattle.screen_model.specs.Made.{Fed, played, made_on}
use Rattle.screen_view_laws.specs.Plain.{terminal_of, size_shown, IsPlainState}

-- u is a plain state, as large as s, that shows t
pub record Shows (s : State) (t : Term) (u : State) : Type 0 where
  pub shows : terminal_of u ≡ t
  pub size : size_shown u ≡ size_shown s
  pub plain : IsPlainState u

-- the test `is_plain` passes exactly for plain states
abbrev pub EachPlainStateIsRead : Type 0
EachPlainStateIsRead = (s : State) → (IsState s → is_plain s ≡ true → IsPlainState s)
    × (IsPlainState s → is_plain s ≡ true)

-- a new state is plain, and shows a blank terminal
abbrev pub EachFreshStateIsBlank : Type 0
EachFreshStateIsBlank = (rows cols capacity : ℕ) → 0 < rows → rows < 2 ^ 16 → 0 < cols → cols < 2 ^ 16
    → IsPlainState (fresh_state rows cols capacity) × (terminal_of (fresh_state rows cols capacity) ≡ blank_term)

-- the events of a form have the form's effect on a plain state
abbrev pub EachFormIsPlayed : Type 0
EachFormIsPlayed = (s : State) (f : Form) → IsPlainState s → IsForm f
    → Shows s (apply (size_shown s) f (terminal_of s)) (played (events_of f) s)

-- the events of a list of forms have the list's effect on a plain state
abbrev pub EachListIsPlayed : Type 0
EachListIsPlayed = (s : State) (fs : List Form) → IsPlainState s → AllByRecursion IsForm fs
    → Shows s (run (size_shown s) fs (terminal_of s)) (played (events_of_all fs) s)

-- the bytes of forms have the forms' effect on a plain state, after any past that leaves the parser at ground
abbrev pub EachWrittenFormIsMade : Type 0
EachWrittenFormIsMade = (past : List ℕ) (s : State) (fs : List Form) → AtGround 1024 past → IsPlainState s
    → AllByRecursion IsForm fs
    → Shows s (run (size_shown s) fs (terminal_of s)) (made_on past s (Fed (bytes_of fs) ∷ []))
    × AtGround 1024 (past ++ bytes_of fs)

-- ---- texts with U+FE0F, by which a state may make a cell wide

-- u is a plain state, as large as s, that has the modes and the style of t
pub record HasModes (s : State) (t : Term) (u : State) : Type 0 where
  pub modes : u.modes ≡ t.modes
  pub style : u.style ≡ t.style
  pub size : size_shown u ≡ size_shown s
  pub plain : IsPlainState u

-- after the events of forms a plain state is still plain, and has the modes and style that the forms give
abbrev pub EachSentListIsPlayed : Type 0
EachSentListIsPlayed = (s : State) (fs : List Form) → IsPlainState s → AllByRecursion IsSentForm fs
    → HasModes s (run (size_shown s) fs (terminal_of s)) (played (events_of_all fs) s)

-- the same holds after the bytes of forms, after any past that leaves the parser at ground
abbrev pub EachSentWrittenFormIsMade : Type 0
EachSentWrittenFormIsMade = (past : List ℕ) (s : State) (fs : List Form) → AtGround 1024 past → IsPlainState s
    → AllByRecursion IsSentForm fs
    → HasModes s (run (size_shown s) fs (terminal_of s)) (made_on past s (Fed (bytes_of fs) ∷ []))
    × AtGround 1024 (past ++ bytes_of fs)
