-- A row that is drawn on a terminal: what must be true before, and what is true afterwards.
use Rattle.std.specs.Prelude.{ℕ, ◌+◌, ◌-◌, ◌<◌, ◌≡◌, ◌⊎◌, Bool, true, false, Contains, None}
use Rattle.std.specs.Prelude.{if◌then◌else◌}
use Rattle.vt100_forms.specs.Attrs.{IsProper}
use Rattle.vt100_forms.specs.declared.attrs.Attrs.{Attrs}
use Rattle.vt100_cells.specs.Cell.{CellView, IsCell, is_filled}
use Rattle.vt100_cells.specs.Line.{IsPaired, Bounded}
use Rattle.terminal_model.specs.Position.{update}
use Rattle.terminal_model.specs.Term.{Size, Term}
use Rattle.row_drawing.specs.declared.pen.Pen.{Pen}
use Rattle.row_drawing.specs.RowWriter.{RowChange, keeps_flag}

-- A terminal of `rows` rows and the row's columns; `cells` and `flags` are its own before the row is drawn. Of
-- `term` only the other fields count.
pub record Scene : Type 0 where
  pub rows : ℕ
  pub row_change : RowChange
  pub term : Term
  pub cells : ℕ → ℕ → CellView
  pub flags : ℕ → Bool

abbrev pub scene_size : Scene → Size
scene_size s = record { rows = s.rows; cols = s.row_change.cols }

-- the terminal with the line f in that row, with these flags, cursor and attributes
abbrev pub with_row : Scene → (ℕ → CellView) → (ℕ → Bool) → ℕ → ℕ → Attrs → Term
with_row s f W r c a = record (s.term) {
  cell = update s.cells s.row_change.row f;
  wrapped = W;
  row = r;
  col =
      c;
  attrs = a;
}

-- the flags, with that of the row above set if that row wraps
abbrev pub flags_above : Scene → ℕ → Bool
flags_above s = if s.row_change.above then update s.flags (s.row_change.row - 1) true else s.flags

-- What can be drawn: halves of wide cells are side by side, nothing is off the row, and a row that wraps shows
-- something in its last column.
pub record IsLine (n : ℕ) (f : ℕ → CellView) (wrapped : Bool) : Type 0 where
  pub paired : IsPaired f
  pub beyond : Bounded n f
  pub filled : wrapped ≡ true → is_filled (f (n - 1)) ≡ true

-- Whole rows are drawn. The flags before are those of the terminal. A row above that wraps shows something in its
-- last column.
pub record IsScene (s : Scene) : Type 0 where
  pub whole : s.row_change.start ≡ 0
  pub some_col : 0 < s.row_change.cols
  pub row_in : s.row_change.row < s.rows
  pub old : IsLine s.row_change.cols s.row_change.old s.row_change.was_wrapped
  pub new : IsLine s.row_change.cols s.row_change.new s.row_change.wrapped
  pub cells : (k : ℕ) → IsCell (s.row_change.new k)
  pub plain : (k : ℕ) → Contains (s.row_change.new k).text 0xFE0F → ⊥
  pub proper : (k : ℕ) → IsProper (s.row_change.new k).attrs
  pub flag : s.flags s.row_change.row ≡ s.row_change.was_wrapped
  pub below_first : s.row_change.above ≡ true → 0 < s.row_change.row
  pub above_filled : s.row_change.above ≡ true → is_filled (s.cells (s.row_change.row - 1) (s.row_change.cols - 1))
      ≡ true
  pub above_flag : s.row_change.above ≡ true → s.row_change.was_above ≡ true → s.flags (s.row_change.row - 1) ≡ true

-- the pen at the start of the row: if the row above still needs its flag, the cursor is past that row's last column
pub record IsReady (s : Scene) (p : Pen) : Type 0 where
  pub closed : p.erase ≡ None
  pub kept : p.lost ≡ false
  pub proper : IsProper p.attrs
  pub waits : s.row_change.above ≡ true → s.row_change.was_above ≡ false → (p.pos.row + 1 ≡ s.row_change.row)
      × (p.pos.col ≡ s.row_change.cols)

-- The row is drawn, and the pen is right. The terminal has the row's flag; or the row wraps, and the cursor is past
-- its last column, so that the next row sets the flag. `keeps_flag` says which, and the next row relies on it.
pub record IsDrawn (s : Scene) (p : Pen) (t : Term) : Type 0 where
  pub flags : ℕ → Bool
  pub state_after : t ≡ with_row s s.row_change.new flags p.pos.row p.pos.col p.attrs
  pub proper : IsProper p.attrs
  pub closed : p.erase ≡ None
  pub flagged : (flags ≡ update (flags_above s) s.row_change.row s.row_change.wrapped)
      ⊎ ((s.row_change.wrapped ≡ true) × (p.pos.row ≡ s.row_change.row) × (p.pos.col ≡ s.row_change.cols)
      × (update flags s.row_change.row true ≡ update (flags_above s) s.row_change.row true))
  pub keeps : s.row_change.wrapped ≡ true → keeps_flag s.row_change p ≡ true → flags s.row_change.row ≡ true
  pub waits : s.row_change.wrapped ≡ true → keeps_flag s.row_change p ≡ false → (p.pos.row ≡ s.row_change.row)
      × (p.pos.col ≡ s.row_change.cols)
