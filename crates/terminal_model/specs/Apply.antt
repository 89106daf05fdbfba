-- What each form does to a plain terminal.
use Rattle.std.specs.Prelude.{ℕ, ◌+◌, ◌-◌, ◌==◌, Bool, true, false, not, ◌&&◌, ◌||◌, nat_lt, nat_le, min, List, [], ◌∷◌}
use Rattle.std.specs.Prelude.{if◌then◌else◌}
use Rattle.vt100_forms.specs.Attrs.{default_attrs}
use Rattle.vt100_forms.specs.Form.{Form, Text, MoveTo, MoveRight, EraseChar, ClearRowForward, ClearScreen, ClearAttrs}
use Rattle.vt100_forms.specs.Form.{Crlf, Lf, Backspace, SaveCursor, RestoreCursor, HideCursor, Keypad, CursorKeys}
use Rattle.vt100_forms.specs.Form.{Paste, Mouse, Encoding, Style, Sgr, mouse_number, encoding_number, style_number}
use Rattle.vt100_forms.specs.Form.{with_change}
use Rattle.vt100_cells.specs.Cell.{CellView, columns_of, is_undrawable, cell_of, empty_cell, default_cell, is_filled}
use Rattle.vt100_cells.specs.Cell.{appended_in_place}
use Rattle.vt100_cells.specs.Line.{span_of, put, put_unflags, base_col, wiped, wipe_unflags}
use Rattle.terminal_model.specs.Position.{update}
use Rattle.terminal_model.specs.Term.{Size, Term}

-- ---- the cursor's line

-- the cursor's line becomes g; the row still wraps into the next one only if `stays` is true
unfoldable pub with_line : Term → (ℕ → CellView) → Bool → Term
with_line t g stays = record t {
  cell = update t.cell t.row g;
  wrapped = if stays then t.wrapped
      else update t.wrapped t.row false;
}

-- the columns from the cursor up to e are erased
unfoldable pub erase : Size → ℕ → Term → Term
erase z e t = with_line t (wiped (t.cell t.row) t.col e t.attrs) (not (wipe_unflags z.cols (t.cell t.row) t.col e))

-- x is put at the cursor, which moves to the right of it
unfoldable pub print : Size → CellView → Term → Term
print z x t = record (with_line t (put (t.cell t.row) t.col x t.attrs)
    (not (put_unflags z.cols (t.cell t.row) t.col x))) { col = t.col + span_of x }

-- a zero-width character is added to the cell left of the cursor
unfoldable pub join : ℕ → Term → Term
join c t =
    let i = base_col (t.cell t.row) t.col in
    with_line t (update (t.cell t.row) i (appended_in_place (t.cell t.row i) c)) true

-- ---- the next row

-- the cursor moves down by a row; in the last row the screen scrolls up instead, and a blank row appears at the bottom
unfoldable pub down : Size → Term → Term
down z t =
    if nat_lt (t.row + 1) z.rows then record t { row = t.row + 1 }
    else record t {
      cell = (λ r. if nat_lt (r + 1) z.rows then t.cell (r + 1) else (λ k. default_cell));
      wrapped = (λ r. nat_lt (r + 1) z.rows && t.wrapped (r + 1));
    }

-- the row wraps into the next one if its last column shows something, and the cursor moves to the start of that one
unfoldable pub wrap : Size → Term → Term
wrap z t = down z (record t { wrapped = update t.wrapped t.row (is_filled (t.cell t.row (z.cols - 1))); col = 0 })

-- wraps first if fewer than n columns are left in the row
unfoldable pub made_to_fit : Size → ℕ → Term → Term
made_to_fit z n t = if nat_le (t.col + n) z.cols then t else wrap z t

-- ---- characters

-- Whether a character isn't shown on a screen of `width` columns with the cursor at `col`. Not shown are control
-- characters, characters wider than the screen, and zero-width ones with no cell to their left.
abbrev pub is_dropped : ℕ → ℕ → ℕ → Bool
is_dropped width col c = is_undrawable c || (nat_lt width (columns_of c) || ((columns_of c == 0) && (col == 0)))

-- one character. U+FE0F makes no cell wide.
unfoldable pub input : Size → ℕ → Term → Term
input z c t =
    if is_dropped z.cols t.col c then t
    else if columns_of c == 0 then join c t
    else print z (cell_of c t.attrs) (made_to_fit z (columns_of c) t)

abbrev pub inputs : Size → List ℕ → Term → Term
inputs z [] t = t
inputs z (c ∷ cs) t = inputs z cs (input z c t)

-- ---- modes

-- A form changes a mode from `from` to `to`, given by their numbers, where 0 is the default; `now` is what the terminal
-- has. The default is reached by a reset of `from`, which does nothing if another mode is set.
abbrev pub switched : {A : Type 0} → (A → ℕ) → A → A → A → A
switched number to from now =
    if number to == number from then now
    else if (number to == 0) && not (number now == number from) then now
    else to

-- ---- forms

unfoldable pub apply : Size → Form → Term → Term
apply z (Text cs) t = inputs z cs t
apply z (MoveTo r c) t = record t { row = min r (z.rows - 1); col = min c (z.cols - 1) }
apply z (MoveRight n) t = if n == 0 then t else record t { col = min (t.col + n) (z.cols - 1) }
apply z (EraseChar n) t = erase z (min (t.col + n) z.cols) t
apply z ClearRowForward t = erase z z.cols t
apply z ClearScreen t = record t {
  cell = (λ r k. if nat_lt r z.rows && nat_lt k z.cols then empty_cell t.attrs else default_cell);
  wrapped = (λ r. false);
  row = 0;
  col = 0;
}
apply z ClearAttrs t = record t { attrs = default_attrs }
apply z Crlf t = down z (record t { col = 0 })
apply z Lf t = down z t
apply z Backspace t = record t { col = t.col - 1 }
apply z SaveCursor t = record t { saved_row = t.row; saved_col = t.col; saved_attrs = t.attrs }
apply z RestoreCursor t = record t { row = t.saved_row; col = t.saved_col; attrs = t.saved_attrs }
apply z (HideCursor b) t = record t { hidden = b }
apply z (Keypad b) t = record t { modes = record (t.modes) { keypad = b } }
apply z (CursorKeys b) t = record t { modes = record (t.modes) { cursor_keys = b } }
apply z (Paste b) t = record t { modes = record (t.modes) { paste = b } }
apply z (Mouse to from) t = record t {
  modes = record (t.modes) {
    mouse = switched mouse_number to from t.modes.mouse;
  };
}
apply z (Encoding to from) t = record t {
  modes = record (t.modes) { encoding = switched encoding_number to from t.modes.encoding };
}
apply z (Style to from) t = record t { style = if style_number to == style_number from then t.style else to }
apply z (Sgr c) t = record t { attrs = with_change c t.attrs }

-- the terminal after the forms, read one after the other
abbrev pub run : Size → List Form → Term → Term
run z [] t = t
run z (f ∷ fs) t = run z fs (apply z f t)
