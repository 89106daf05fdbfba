-- A row that is drawn, with the types of the code.
use Rattle.std.specs.Prelude.{ℕ, ◌≡◌, ◌==◌, ◌&&◌, ◌+◌, ◌≤◌, ◌<◌, nat_lt, true, false, not, if◌then◌else◌}
use Rattle.std.specs.Prelude.{List, length, None, encode_utf8_all}
use Rattle.vt100_forms.specs.declared.attrs.Attrs.{Attrs}
use Rattle.vt100_forms.specs.Attrs.{attrs_eq}
use Rattle.vt100_cells.specs.Line.{put_unflags}
use Rattle.vt100_cells.specs.Cell.{CellView, has_text}
use Rattle.vt100_cells.specs.Cells.{cell_at}
use Rattle.row_drawing.specs.declared.drawing.Drawing.{Drawing}
use Rattle.row_drawing.specs.declared.pen.Pen.{Pen}
use Rattle.row_drawing.specs.RowWriter.{RowChange, is_same, column, columns}
use Rattle.row_drawing.specs.Writer.{skip}
use Rattle.row_drawing.specs.Writes.{Wrote}

abbrev pub row_change_of : Drawing → RowChange
row_change_of d = record {
  cols = length d.cells.now;
  row = d.row;
  start = d.start;
  old = cell_at d.earlier.now;
  new = cell_at d.cells.now;
  wrapped = d.wrapped;
  was_wrapped = d.was_wrapped;
  above = d.above;
  was_above = d.was_above;
}

-- The terminal shows the row's cells, and has its flag and that of a row above that wraps. The pen has nothing pending.
pub record IsSettled (d : Drawing) (p : Pen) : Type 0 where
  pub cells : d.cells.now ≡ d.earlier.now
  pub flag : d.wrapped ≡ d.was_wrapped
  pub above : d.above ≡ true → d.was_above ≡ true
  pub closed : p.erase ≡ None
  pub unlost : p.lost ≡ false

-- Nothing is written for the columns from a up to b: the terminal shows their cells already, or they are pending, to be
-- erased with those before them.
abbrev pub AreQuiet : RowChange → Pen → ℕ → ℕ → Type 0
AreQuiet j p a b = (c : ℕ) → a ≤ c → c < b → column j c p ≡ skip p

-- If drawing the first n columns ends with the pen p and the text s, drawing the first m ends with the pen q and the
-- text t.
pub record GoesTo (j : RowChange) (n m : ℕ) (p : Pen) (s : List ℕ) (q : Pen) (t : List ℕ) : Type 0 where
  pub goes : (p0 : Pen) (s0 : List ℕ) → Wrote (columns j n) p0 s0 p s → Wrote (columns j m) p0 s0 q t

-- The cell at column c can begin a run of texts: its text has at most four bytes, differs, and keeps the row's flag,
-- and no column is pending.
pub record BeginsRun (j : RowChange) (c : ℕ) (p : Pen) : Type 0 where
  pub filled : has_text (j.new c) ≡ true
  pub closed : p.erase ≡ None
  pub whole : ((j.new c).continuation && not (c == j.start)) ≡ false
  pub other : is_same j c ≡ false
  pub four : length (encode_utf8_all (j.new c).text) ≤ 4
  pub keeps : put_unflags j.cols j.old c (j.new c) ≡ false

-- the cursor is at column c of the row
pub record IsAt (j : RowChange) (c : ℕ) (p : Pen) : Type 0 where
  pub row : p.pos.row ≡ j.row
  pub col : p.pos.col ≡ c

-- The cell at column c can join a run of texts with these attributes: it could begin one, the cursor is there, and its
-- attributes are equal.
pub record JoinsRun (j : RowChange) (c : ℕ) (p : Pen) (a : Attrs) : Type 0 where
  pub begins : BeginsRun j c p
  pub here : IsAt j c p
  pub attrs : attrs_eq (j.new c).attrs a ≡ true

-- the column after the cell x at the n-th of k columns; a wide cell takes its second half with it
abbrev pub behind : CellView → ℕ → ℕ → ℕ
behind x n k = if x.wide && nat_lt (n + 1) k then n + 2 else n + 1
