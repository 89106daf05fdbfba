-- The cells that a form touches: those that it fills, clears or erases, with their other halves. A form that scrolls
-- touches every cell.
use Rattle.std.specs.Prelude.{ℕ, ◌+◌, ◌≡◌, ◌==◌, Bool, true, false, ◌&&◌, ◌||◌, nat_lt, nat_le, min, List, [], ◌∷◌}
use Rattle.std.specs.Prelude.{if◌then◌else◌}
use Rattle.vt100_forms.specs.Form.{Form, Text, MoveTo, MoveRight, EraseChar, ClearRowForward, ClearScreen, ClearAttrs}
use Rattle.vt100_forms.specs.Form.{Crlf, Lf, Backspace, SaveCursor, RestoreCursor, HideCursor, Keypad, CursorKeys}
use Rattle.vt100_forms.specs.Form.{Paste, Mouse, Encoding, Style, Sgr}
use Rattle.vt100_cells.specs.Cell.{CellView, columns_of, cell_of}
use Rattle.vt100_cells.specs.Line.{base_col}
use Rattle.terminal_model.specs.Term.{Size, Term}
use Rattle.terminal_model.specs.Apply.{is_dropped, input, apply}

-- x is put at column i of the line f. It touches its own columns and the rest of a wide cell that it covers. If it
-- covers a second half, it touches the first half too.
abbrev pub put_touches : (ℕ → CellView) → ℕ → CellView → ℕ → Bool
put_touches f i x k =
    (k == i)
    || (((k == (i + 1)) && (x.wide || (f i).wide))
    || ((((k + 1) == i) && (f k).wide) || ((k == (i + 2)) && (x.wide && (f (i + 1)).wide))))

-- the columns from s up to e are erased, with the other half of each wide cell that is cut
abbrev pub wipe_touches : (ℕ → CellView) → ℕ → ℕ → ℕ → Bool
wipe_touches f s e k =
    (nat_le s k && nat_lt k e) || (nat_lt s e && ((((k + 1) == s) && (f k).wide) || ((k == e) && (f k).continuation)))

abbrev pub is_last_row : Size → Term → Bool
is_last_row z t = nat_le z.rows (t.row + 1)

unfoldable pub input_touches : Size → ℕ → Term → ℕ → ℕ → Bool
input_touches z c t r k =
    if is_dropped z.cols t.col c then false
    else if columns_of c == 0 then (r == t.row) && (k == base_col (t.cell t.row) t.col)
    else if nat_le (t.col + columns_of c) z.cols then (r == t.row)
    && put_touches (t.cell t.row) t.col (cell_of c t.attrs) k
    else is_last_row z t || ((r == (t.row + 1)) && put_touches (t.cell (t.row + 1)) 0 (cell_of c t.attrs) k)

abbrev pub inputs_touch : Size → List ℕ → Term → ℕ → ℕ → Bool
inputs_touch z [] t r k = false
inputs_touch z (c ∷ cs) t r k = input_touches z c t r k || inputs_touch z cs (input z c t) r k

unfoldable pub form_touches : Size → Form → Term → ℕ → ℕ → Bool
form_touches z (Text cs) t r k = inputs_touch z cs t r k
form_touches z (EraseChar n) t r k = (r == t.row) && wipe_touches (t.cell t.row) t.col (min (t.col + n) z.cols) k
form_touches z ClearRowForward t r k = (r == t.row) && wipe_touches (t.cell t.row) t.col z.cols k
form_touches z ClearScreen t r k = true
form_touches z Crlf t r k = is_last_row z t
form_touches z Lf t r k = is_last_row z t
form_touches z (MoveTo row col) t r k = false
form_touches z (MoveRight n) t r k = false
form_touches z ClearAttrs t r k = false
form_touches z Backspace t r k = false
form_touches z SaveCursor t r k = false
form_touches z RestoreCursor t r k = false
form_touches z (HideCursor b) t r k = false
form_touches z (Keypad b) t r k = false
form_touches z (CursorKeys b) t r k = false
form_touches z (Paste b) t r k = false
form_touches z (Mouse to from) t r k = false
form_touches z (Encoding to from) t r k = false
form_touches z (Style to from) t r k = false
form_touches z (Sgr c) t r k = false

-- whether the form, read by this terminal, touches the cell at row r and column k of the screen
unfoldable pub touches : Size → Form → Term → ℕ → ℕ → Bool
touches z f t r k = (nat_lt r z.rows && nat_lt k z.cols) && form_touches z f t r k

-- the forms, read by t one after the other, touch only cells of S
abbrev pub Within : (ℕ → ℕ → Type 0) → Size → List Form → Term → Type 0
Within S z [] t = Unit {0}
Within S z (f ∷ fs) t = ((r k : ℕ) → touches z f t r k ≡ true → S r k) × Within S z fs (apply z f t)
