-- The calls of control characters and escape sequences.
use Rattle.std.specs.Prelude.{ℕ, List, [], ◌∷◌, Option, Some, None, nat_eq, if◌then◌else◌, unwrap_or}
use Rattle.vte_types.specs.Call as call
use Rattle.vte_types.specs.Call.{Call}
use Rattle.vte_types.specs.Lookup.{lookup}
use Rattle.vte_types.specs.declared.charset.CharsetIndex.{CharsetIndex}
use Rattle.vte_types.specs.declared.charset.CharsetIndex.TheVariants as i
use Rattle.vte_types.specs.declared.charset.StandardCharset.TheVariants as c

-- the calls of a key's row; none if it has no row
abbrev pub calls_at : ℕ → List (ℕ × List Call) → List Call
calls_at key rows = unwrap_or (lookup key rows) []

-- HT, BS, CR, LF, VT, FF, BEL, SUB, SI, SO
abbrev pub execute_rows : List (ℕ × List Call)
execute_rows =
    (9, call.put_tab 1 ∷ []) ∷ (8, call.backspace ∷ []) ∷ (13, call.carriage_return ∷ [])
    ∷ (10, call.linefeed ∷ []) ∷ (11, call.linefeed ∷ []) ∷ (12, call.linefeed ∷ [])
    ∷ (7, call.bell ∷ []) ∷ (26, call.substitute ∷ []) ∷ (15, call.set_active_charset i.G0 ∷ [])
    ∷ (14, call.set_active_charset i.G1 ∷ []) ∷ []

abbrev pub execute_calls : ℕ → List Call
execute_calls b = calls_at b execute_rows

-- without intermediates: D E H M Z c 7 8 = >
abbrev pub unmarked_escape_rows : List (ℕ × List Call)
unmarked_escape_rows =
    (68, call.linefeed ∷ []) ∷ (69, call.linefeed ∷ call.carriage_return ∷ []) ∷ (72, call.set_horizontal_tabstop ∷ [])
    ∷ (77, call.reverse_index ∷ [])
    ∷ (90, call.identify_terminal None ∷ []) ∷ (99, call.reset_state ∷ []) ∷ (55, call.save_cursor_position ∷ [])
    ∷ (56, call.restore_cursor_position ∷ [])
    ∷ (61, call.set_keypad_application_mode ∷ []) ∷ (62, call.unset_keypad_application_mode ∷ []) ∷ []

-- after #: 8
abbrev pub hash_escape_rows : List (ℕ × List Call)
hash_escape_rows = (56, call.decaln ∷ []) ∷ []

-- ( ) * +
abbrev pub charset_index : ℕ → Option CharsetIndex
charset_index b = lookup b ((40, i.G0) ∷ (41, i.G1) ∷ (42, i.G2) ∷ (43, i.G3) ∷ [])

-- after one of them: B 0
abbrev pub charset_rows : CharsetIndex → List (ℕ × List Call)
charset_rows g = (66, call.configure_charset g c.Ascii ∷ [])
    ∷ (48, call.configure_charset g c.SpecialCharacterAndLineDrawing ∷ []) ∷ []

abbrev pub charset_calls : Option CharsetIndex → ℕ → List Call
charset_calls None b = []
charset_calls (Some g) b = calls_at b (charset_rows g)

abbrev pub escape_calls : List ℕ → ℕ → List Call
escape_calls [] b = calls_at b unmarked_escape_rows
escape_calls (x ∷ []) b = if nat_eq x 35 then calls_at b hash_escape_rows else charset_calls (charset_index x) b
escape_calls (x ∷ y ∷ ms) b = []
