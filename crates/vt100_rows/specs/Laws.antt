-- What the forms of a whole row do to a terminal.
use Rattle.std.specs.Prelude.{ℕ, ◌≡◌, ◌^◌, ◌<◌, ◌≤◌, Bool, false, List, length, Contains, Option, Some, unwrap_or}
use Rattle.vt100_forms.specs.declared.attrs.Attrs.{Attrs}
use Rattle.vt100_forms.specs.declared.position.Pos.{Pos}
use Rattle.vt100_forms.specs.Attrs.{IsProper, HasByteColors, default_attrs}
use Rattle.vt100_forms.specs.Form.{Form}
use Rattle.vt100_forms.specs.Mark.{HasNoMark}
use Rattle.vt100_cells.specs.Cell.{CellView, default_cell}
use Rattle.vt100_cells.specs.Cells.{cell_at}
use Rattle.terminal_model.specs.Term.{Size, Term}
use Rattle.terminal_model.specs.Apply.{run}
use Rattle.terminal_model.specs.FormText.{IsSentText, IsFormText, AreForms, AreSentForms}
use Rattle.row_drawing.specs.declared.pen.Pen.{Pen}
use Rattle.row_drawing.specs.Small.{IsSmallPen}
use Rattle.row_drawing.specs.Texts.{AllDrawing}
use Rattle.vt100_rows.specs.Row.{RowView, IsRow}
use Rattle.vt100_rows.specs.Forms.{redraw, formatted, difference, differing}

-- a terminal of this many rows, as wide as the row
abbrev pub row_screen : ℕ → RowView → Size
row_screen rows v = record { rows = rows; cols = length v.cells }

-- no character of the row asks for an emoji, and its attributes are such as control sequences can set
pub record IsPlainRow (v : RowView) : Type 0 where
  pub plain : (k : ℕ) → Contains (cell_at v.cells k).text 0xFE0F → ⊥
  pub proper : (k : ℕ) → IsProper (cell_at v.cells k).attrs

-- The terminal shows these cells in this row, which has the flag or hasn't; its cursor is at the start of the row,
-- and it draws with the default attributes. What a writer is given as cursor and attributes, if it is given, is right.
pub record IsAtRow (row : ℕ) (f : ℕ → CellView) (flag : Bool) (pos : Option Pos) (attrs : Option Attrs) (t : Term)
    : Type 0 where
  pub cells : (k : ℕ) → t.cell row k ≡ f k
  pub wrapped : t.wrapped row ≡ flag
  pub row_is : t.row ≡ row
  pub col_is : t.col ≡ 0
  pub attrs_are : t.attrs ≡ default_attrs
  pub reported_pos : unwrap_or pos (record { row = row; col = 0 }) ≡ record { row = row; col = 0 }
  pub reported_attrs : unwrap_or attrs default_attrs ≡ default_attrs

-- From the terminal t to the terminal u: row `row` shows these cells, and all other rows are as they were, with their
-- flags. The cursor and the attributes are those of the pen; what is hidden, the modes and what is saved stay.
pub record IsRowDrawn (row : ℕ) (f : ℕ → CellView) (p : Pen) (t u : Term) : Type 0 where
  pub drawn : (k : ℕ) → u.cell row k ≡ f k
  pub others : (r k : ℕ) → (r ≡ row → ⊥) → u.cell r k ≡ t.cell r k
  pub flags : (r : ℕ) → (r ≡ row → ⊥) → u.wrapped r ≡ t.wrapped r
  pub row_is : u.row ≡ p.pos.row
  pub col_is : u.col ≡ p.pos.col
  pub attrs_are : u.attrs ≡ p.attrs
  pub hidden : u.hidden ≡ t.hidden
  pub modes : u.modes ≡ t.modes
  pub style : u.style ≡ t.style
  pub saved_row : u.saved_row ≡ t.saved_row
  pub saved_col : u.saved_col ≡ t.saved_col
  pub saved_attrs : u.saved_attrs ≡ t.saved_attrs

-- on default cells without a flag the forms of the whole row draw the row's cells
abbrev pub EachRowIsDrawn : Type 0
EachRowIsDrawn = (rows : ℕ) (t : Term) (v : RowView) (row width : ℕ) (pos : Option Pos) (attrs : Option Attrs) → IsRow v
    → IsPlainRow v → row < rows → 0 < length v.cells → length v.cells ≤ width
    → IsAtRow row (λ k. default_cell) false pos attrs t
    → IsRowDrawn row (cell_at v.cells) (formatted v 0 width row false pos attrs).pen t
    (run (row_screen rows v) (formatted v 0 width row false pos attrs).forms t)

-- where it shows an earlier row of the same length, those of the whole row's difference do
abbrev pub EachDifferenceIsDrawn : Type 0
EachDifferenceIsDrawn = (rows : ℕ) (t : Term) (v earlier : RowView) (row width : ℕ) (was_above : Bool) (pos : Pos)
    (attrs : Attrs) → IsRow v → IsPlainRow v → IsRow earlier → length earlier.cells ≡ length v.cells → row < rows
    → 0 < length v.cells → length v.cells ≤ width
    → IsAtRow row (cell_at earlier.cells) earlier.wrapped (Some pos) (Some attrs) t
    → IsRowDrawn row (cell_at v.cells) (differing v earlier 0 width row false was_above pos attrs).pen t
    (run (row_screen rows v) (differing v earlier 0 width row false was_above pos attrs).forms t)

-- ---- the forms of any part of a row

-- Q is true of the forms of a redraw and of a difference, whichever columns are drawn and wherever
abbrev pub IsTrueOfForms : (List Form → Type 0) → RowView → Type 0
IsTrueOfForms Q v = (earlier : RowView) (start width row : ℕ) (above was_above : Bool) (p : Pen)
    → Q (redraw v start width row above p).forms × Q (difference v earlier start width row above was_above p).forms

-- no character of the row is U+FFFD, which a terminal doesn't draw
abbrev pub IsKnownRow : RowView → Type 0
IsKnownRow v = (k : ℕ) → Contains (cell_at v.cells k).text 0xFFFD → ⊥

-- they set no mode and no style, and their texts are those of cells
abbrev pub EachTextIsSent : Type 0
EachTextIsSent = (v : RowView) → IsRow v → IsKnownRow v → IsTrueOfForms (AllDrawing IsSentText) v

-- which hold no U+FE0F if the row doesn't
abbrev pub EachTextIsAForm : Type 0
EachTextIsAForm = (v : RowView) → IsRow v → IsKnownRow v → ((k : ℕ) → Contains (cell_at v.cells k).text 0xFE0F → ⊥)
    → IsTrueOfForms (AllDrawing IsFormText) v

-- they contain no mark of a synchronized update
abbrev pub EachHasNoMark : Type 0
EachHasNoMark = (v : RowView) → IsRow v → IsKnownRow v → IsTrueOfForms HasNoMark v

-- ---- lists of forms

-- a row whose numbers are of the code's types
pub record IsSmallRow (v : RowView) : Type 0 where
  pub cols : length v.cells < 2 ^ 16
  pub colors : (k : ℕ) → HasByteColors (cell_at v.cells k).attrs

-- the same of Q, where those of the place and of the pen are, too
abbrev pub IsTrueOfSmallForms : (List Form → Type 0) → RowView → Type 0
IsTrueOfSmallForms Q v = (earlier : RowView) (start width row : ℕ) (above was_above : Bool) (p : Pen) → row < 2 ^ 16
    → IsSmallPen p
    → Q (redraw v start width row above p).forms × Q (difference v earlier start width row above was_above p).forms

-- then they are forms that writers send; and where no cell has U+FE0F, such as every reader takes alike
abbrev pub EachListIsSent : Type 0
EachListIsSent = (v : RowView) → IsRow v → IsSmallRow v → IsKnownRow v → IsTrueOfSmallForms AreSentForms v

abbrev pub EachListIsOfForms : Type 0
EachListIsOfForms = (v : RowView) → IsRow v → IsSmallRow v → IsKnownRow v
    → ((k : ℕ) → Contains (cell_at v.cells k).text 0xFE0F → ⊥) → IsTrueOfSmallForms AreForms v
