-- Private modes (DECSET, DECRST; xterm's control sequences).
use Rattle.std.specs.Prelude.{ℕ, ◌+◌, Bool, true, false, List, [], ◌∷◌, Option, Some, None, is_some, if◌then◌else◌}
use Rattle.vt100_forms.specs.declared.modes.MouseProtocolMode.{MouseProtocolMode}
use Rattle.vt100_forms.specs.declared.modes.MouseProtocolMode.TheVariants as mouse
use Rattle.vt100_forms.specs.declared.modes.MouseProtocolEncoding.{MouseProtocolEncoding}
use Rattle.vt100_forms.specs.declared.modes.MouseProtocolEncoding.TheVariants as encoding
use Rattle.screen_model.specs.Lookup.{lookup}
use Rattle.screen_model.specs.State.{State}
use Rattle.screen_model.specs.Step.{Partly, with_modes, with_cursor_keys, with_paste, with_hidden, with_updating}
use Rattle.screen_model.specs.Step.{with_origin_mode}
use Rattle.screen_model.specs.Step.{alternate_shown, main_shown, alternate_entered, alternate_left}

abbrev pub is_mouse : MouseProtocolMode → MouseProtocolMode → Bool
is_mouse mouse.None mouse.None = true
is_mouse mouse.Press mouse.Press = true
is_mouse mouse.PressRelease mouse.PressRelease = true
is_mouse mouse.ButtonMotion mouse.ButtonMotion = true
is_mouse mouse.AnyMotion mouse.AnyMotion = true
is_mouse m n = false

abbrev pub is_encoding : MouseProtocolEncoding → MouseProtocolEncoding → Bool
is_encoding encoding.Default encoding.Default = true
is_encoding encoding.Utf8 encoding.Utf8 = true
is_encoding encoding.Sgr encoding.Sgr = true
is_encoding m n = false

abbrev pub mouse_set : MouseProtocolMode → State → State
mouse_set m s = with_modes s (record (s.modes) { mouse = m })

abbrev pub encoding_set : MouseProtocolEncoding → State → State
encoding_set m s = with_modes s (record (s.modes) { encoding = m })

-- the mouse mode is reset, if it is the one that is set
abbrev pub mouse_reset : MouseProtocolMode → State → State
mouse_reset m s = if is_mouse s.modes.mouse m then mouse_set mouse.None s else s

abbrev pub encoding_reset : MouseProtocolEncoding → State → State
encoding_reset m s = if is_encoding s.modes.encoding m then encoding_set encoding.Default s else s

abbrev pub set_rows : List (ℕ × (State → State))
set_rows =
    (1, with_cursor_keys true) ∷ (6, with_origin_mode true) ∷ (9, mouse_set mouse.Press) ∷ (25, with_hidden false)
    ∷ (47, alternate_shown)
    ∷ (1000, mouse_set mouse.PressRelease) ∷ (1002, mouse_set mouse.ButtonMotion) ∷ (1003, mouse_set mouse.AnyMotion)
    ∷ (1005, encoding_set encoding.Utf8) ∷ (1006, encoding_set encoding.Sgr) ∷ (1049, alternate_entered)
    ∷ (2004, with_paste true) ∷ (2026, with_updating true) ∷ []

abbrev pub reset_rows : List (ℕ × (State → State))
reset_rows =
    (1, with_cursor_keys false) ∷ (6, with_origin_mode false) ∷ (9, mouse_reset mouse.Press) ∷ (25, with_hidden true)
    ∷ (47, main_shown)
    ∷ (1000, mouse_reset mouse.PressRelease) ∷ (1002, mouse_reset mouse.ButtonMotion)
    ∷ (1003, mouse_reset mouse.AnyMotion)
    ∷ (1005, encoding_reset encoding.Utf8) ∷ (1006, encoding_reset encoding.Sgr) ∷ (1049, alternate_left)
    ∷ (2004, with_paste false) ∷ (2026, with_updating false) ∷ []

-- a table's row for a parameter; a parameter of more than one number has none
abbrev pub row_of : List (ℕ × (State → State)) → List ℕ → Option (State → State)
row_of rows (n ∷ []) = lookup n rows
row_of rows ns = None

-- the state after a row's change; the same state if there is no row
abbrev pub row_state : Option (State → State) → State → State
row_state None s = s
row_state (Some f) s = f s

abbrev pub partly_on : Option (State → State) → Partly → Partly
partly_on o x = record {
  state = row_state o x.state;
  reports = x.reports;
  unhandled = if is_some o then x.unhandled
      else x.unhandled + 1;
}

-- the parameters, in order
abbrev pub modes_from : List (ℕ × (State → State)) → Partly → List (List ℕ) → Partly
modes_from rows x [] = x
modes_from rows x (g ∷ gs) = modes_from rows (partly_on (row_of rows g) x) gs

abbrev pub modes_set : List (List ℕ) → State → Partly
modes_set gs s = modes_from set_rows (record { state = s; reports = []; unhandled = 0 }) gs

abbrev pub modes_reset : List (List ℕ) → State → Partly
modes_reset gs s = modes_from reset_rows (record { state = s; reports = []; unhandled = 0 }) gs
