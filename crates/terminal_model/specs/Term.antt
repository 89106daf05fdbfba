-- A plain terminal: it shows the main screen, no rows kept above it, and its scroll region is the whole screen. What it
-- shows is given as functions of the position.
use Rattle.std.specs.Prelude.{ℕ, ◌-◌, ◌<◌, ◌≤◌, ◌≡◌, Bool, true, false}
use Rattle.vt100_forms.specs.declared.attrs.Attrs.{Attrs}
use Rattle.vt100_forms.specs.declared.modes.MouseProtocolMode.{MouseProtocolMode}
use Rattle.vt100_forms.specs.declared.modes.MouseProtocolMode.TheVariants as mouse
use Rattle.vt100_forms.specs.declared.modes.MouseProtocolEncoding.{MouseProtocolEncoding}
use Rattle.vt100_forms.specs.declared.modes.MouseProtocolEncoding.TheVariants as encoding
use Rattle.vt100_forms.specs.declared.modes.CursorStyle.{CursorStyle}
use Rattle.vt100_forms.specs.declared.modes.CursorStyle.TheVariants as style
use Rattle.vt100_forms.specs.Attrs.{default_attrs}
use Rattle.vt100_cells.specs.Cell.{CellView, default_cell, is_filled}
use Rattle.vt100_cells.specs.Line.{IsPaired, Bounded}

-- the size of a screen
pub record Size : Type 0 where
  pub rows : ℕ
  pub cols : ℕ

-- the modes of the keys, of pasting and of the mouse
pub record Modes : Type 0 where
  pub keypad : Bool
  pub cursor_keys : Bool
  pub paste : Bool
  pub mouse : MouseProtocolMode
  pub encoding : MouseProtocolEncoding

-- What a terminal shows. `cell` is the cell at each row and column, and a default cell off the screen. `wrapped` says
-- which rows wrap into the next one. The cursor's `col` equals the number of columns if the next character would wrap.
-- `attrs` are those of the next character.
pub record Shown : Type 0 where
  pub cell : ℕ → ℕ → CellView
  pub wrapped : ℕ → Bool
  pub row : ℕ
  pub col : ℕ
  pub hidden : Bool
  pub attrs : Attrs
  pub modes : Modes
  pub style : CursorStyle

-- the cursor and the attributes that were saved (DECSC)
pub record Saved : Type 0 where
  pub row : ℕ
  pub col : ℕ
  pub attrs : Attrs

-- what a terminal shows, and what it has saved
pub record Term : Type 0 where
  pub cell : ℕ → ℕ → CellView
  pub wrapped : ℕ → Bool
  pub row : ℕ
  pub col : ℕ
  pub hidden : Bool
  pub attrs : Attrs
  pub modes : Modes
  pub style : CursorStyle
  pub saved_row : ℕ
  pub saved_col : ℕ
  pub saved_attrs : Attrs

abbrev pub shown_of : Term → Shown
shown_of t = record {
  cell = t.cell;
  wrapped = t.wrapped;
  row = t.row;
  col = t.col;
  hidden = t.hidden;
  attrs = t.attrs;
  modes = t.modes;
  style = t.style;
}

abbrev pub saved_of : Term → Saved
saved_of t = record { row = t.saved_row; col = t.saved_col; attrs = t.saved_attrs }

-- the terminal that shows s and has saved v
abbrev pub term_of : Shown → Saved → Term
term_of s v = record {
  cell = s.cell;
  wrapped = s.wrapped;
  row = s.row;
  col = s.col;
  hidden = s.hidden;
  attrs = s.attrs;
  modes = s.modes;
  style = s.style;
  saved_row = v.row;
  saved_col = v.col;
  saved_attrs = v.attrs;
}

-- ---- a new terminal

abbrev pub default_modes : Modes
default_modes = record {
  keypad = false;
  cursor_keys = false;
  paste = false;
  mouse = mouse.None;
  encoding = encoding.Default;
}

abbrev pub blank_shown : Shown
blank_shown = record {
  cell = λ r k. default_cell;
  wrapped = λ r. false;
  row = 0;
  col = 0;
  hidden = false;
  attrs = default_attrs;
  modes = default_modes;
  style = style.Default;
}

abbrev pub none_saved : Saved
none_saved = record { row = 0; col = 0; attrs = default_attrs }

abbrev pub blank_term : Term
blank_term = term_of blank_shown none_saved

-- ---- what is true of every terminal

pub record IsSaved (z : Size) (v : Saved) : Type 0 where
  pub in_rows : v.row < z.rows
  pub in_cols : v.col ≤ z.cols

-- The halves of wide cells are side by side, and nothing is off the screen. A row that wraps shows something in its
-- last column, and isn't the last row. Both cursors are on the screen. Nothing is said of the texts of cells.
pub record IsTerm (z : Size) (t : Term) : Type 0 where
  pub some_row : 0 < z.rows
  pub some_col : 0 < z.cols
  pub paired : (r : ℕ) → IsPaired (t.cell r)
  pub beyond : (r : ℕ) → Bounded z.cols (t.cell r)
  pub below : (r k : ℕ) → z.rows ≤ r → t.cell r k ≡ default_cell
  pub below_flag : (r : ℕ) → z.rows ≤ r → t.wrapped r ≡ false
  pub filled : (r : ℕ) → t.wrapped r ≡ true → is_filled (t.cell r (z.cols - 1)) ≡ true
  pub last : t.wrapped (z.rows - 1) ≡ false
  pub in_rows : t.row < z.rows
  pub in_cols : t.col ≤ z.cols
  pub saved_in_rows : t.saved_row < z.rows
  pub saved_in_cols : t.saved_col ≤ z.cols

abbrev pub IsShown : Size → Shown → Type 0
IsShown z s = IsTerm z (term_of s none_saved)
