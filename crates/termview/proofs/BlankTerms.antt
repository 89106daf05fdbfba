-- Blank rows, and rows that were erased up to the screen's end, as the lines of a terminal.
use Rattle.std.proofs.Common.{◌≡◌, ℕ, ◌<◌, ◌≤◌, ◌==◌, false, cond, ◌&&◌, nat_lt, List, length}
use Rattle.std.proofs.Common.{set, replicate, sym, ap, ◌∙◌, arith, inl, inr, ⊎_elim}
use Rattle.std.proofs.lemmas.Bool.{cond_both, cond-true, cond-false, lt-ltb, le-ltb, eqb-true, cases_lt}
use Rattle.std.proofs.lemmas.List.{length-replicate, get_or-replicate}
use Rattle.std.proofs.lemmas.Option.{none-some, slice_get_cases}
use Rattle.std.specs.Prelude.{None, slice_get}
use mathlib.Core.Path.{fun_ext}
use Rattle.vt100_cells.specs.Cell.{default_cell, empty_cell}
use Rattle.vt100_cells.specs.Cells.{cell_at}
use Rattle.vt100_cells.proofs.ListLemmas.{cell_at_past, cell_at-replicate}
use Rattle.vt100_rows.specs.Row.{RowView, blank_row, cleared_row, wiped_row}
use Rattle.terminal_model.specs.Term.{Size, Term}
use Rattle.terminal_model.specs.Apply.{with_line, erase}
use Rattle.vt100_rows.specs.Sheet.{row_at, rows_by_position, erased_forward_at}
use Rattle.vt100_rows.specs.Picture.{lines_of, wraps_of}
use Rattle.vt100_rows.proofs.SheetLemmas.{row_at-set, row_at-by_position, length-rows_by_position}
use Rattle.vt100_rows.proofs.PictureLemmas.{lines-past, wraps-past, line-blank}
use Rattle.termview.specs.Picture.{PictureView, term_of_picture, IsPicture}
use Rattle.termview.specs.Step.{erase_below}
use Rattle.termview.proofs.RowTerms.{cursor_row, here, erased-is}

-- ---- blank rows

blank_at : (n width r : ℕ) → (row_at (replicate n (blank_row width)) r).wrapped ≡ false
blank_at n width r = ⊎_elim
    (λ (h : r < n). ap (λ (v : RowView). v.wrapped) (get_or-replicate n r (blank_row width) (blank_row 0) h))
    (λ (h : n ≤ r). wraps-past (replicate n (blank_row width)) r (omega (arith, length-replicate n (blank_row width))))
    (cases_lt r n)

blank_cells : (n width r : ℕ) → lines_of (replicate n (blank_row width)) r ≡ (λ k. default_cell)
blank_cells n width r = ⊎_elim
    (λ (h : r < n). ap (λ (v : RowView). cell_at v.cells) (get_or-replicate n r (blank_row width) (blank_row 0) h)
    ∙ line-blank width)
    (λ (h : n ≤ r). lines-past (replicate n (blank_row width)) r (omega (arith, length-replicate n (blank_row width))))
    (cases_lt r n)

pub blank-lines : (n width : ℕ) (rows : List RowView) → rows ≡ replicate n (blank_row width)
    → lines_of rows ≡ (λ r k. default_cell)
blank-lines n width rows e = ap lines_of e ∙ fun_ext (λ r. blank_cells n width r)

pub blank-wraps : (n width : ℕ) (rows : List RowView) → rows ≡ replicate n (blank_row width)
    → wraps_of rows ≡ (λ r. false)
blank-wraps n width rows e = ap wraps_of e ∙ fun_ext (λ r. blank_at n width r)

-- a row that isn't there is past the last one
pub none-past : (rows : List RowView) (r : ℕ) → slice_get rows r ≡ None → length rows ≤ r
none-past rows r e = elim (slice_get_cases rows r).1 [
  | inl is ↦ absurd (none-some is.0 (sym e ∙ is.2))
  | inr past ↦ past.0
]

-- ---- erased rows

module _ (p : PictureView) (i : IsPicture p) where
  z : Size
  z = p.size

  abbrev at : ℕ → RowView
  at = erased_forward_at p.rows p.row p.col p.size.cols p.attrs

  abbrev rows : List RowView
  rows = rows_by_position (length p.rows) at

  abbrev wiped_one : List RowView
  wiped_one = set p.rows p.row (wiped_row (cursor_row p) p.col p.size.cols p.attrs)

  is_below : (r : ℕ) → r < length p.rows → p.row < r → row_at rows r ≡ cleared_row (row_at p.rows r) p.attrs
  is_below r l h = row_at-by_position (length p.rows) at r l ∙ cond-true (nat_lt p.row r) _ _ (lt-ltb p.row r h)

  same_wiped : (r : ℕ)
      → cond (r == p.row) (wiped_row (row_at p.rows r) p.col p.size.cols p.attrs) (row_at p.rows r)
      ≡ cond (r == p.row) (wiped_row (cursor_row p) p.col p.size.cols p.attrs) (row_at p.rows r)
  same_wiped r =
      cond_both (r == p.row) (wiped_row (row_at p.rows r) p.col p.size.cols p.attrs) (row_at p.rows r)
      (λ w. w ≡ cond (r == p.row) (wiped_row (cursor_row p) p.col p.size.cols p.attrs) (row_at p.rows r))
      (λ e. ap (λ k. wiped_row (row_at p.rows k) p.col p.size.cols p.attrs) (eqb-true r p.row e)
      ∙ sym (cond-true (r == p.row) (wiped_row (cursor_row p) p.col p.size.cols p.attrs) (row_at p.rows r) e))
      (λ e. sym (cond-false (r == p.row) (wiped_row (cursor_row p) p.col p.size.cols p.attrs) (row_at p.rows r) e))

  -- down to the cursor's row the rows are those in which that one alone was erased
  is_above : (r : ℕ) → r ≤ p.row → row_at rows r ≡ row_at wiped_one r
  is_above r h =
      let l = here p i in
      row_at-by_position (length p.rows) at r (omega arith)
      ∙ cond-false (nat_lt p.row r) (cleared_row (row_at p.rows r) p.attrs)
      (cond (r == p.row) (wiped_row (row_at p.rows r) p.col p.size.cols p.attrs) (row_at p.rows r))
      (le-ltb p.row r h)
      ∙ same_wiped r
      ∙ sym (row_at-set p.rows p.row (wiped_row (cursor_row p) p.col p.size.cols p.attrs) r l)

  cleared_at : (r k : ℕ) → r < length p.rows
      → cell_at (cleared_row (row_at p.rows r) p.attrs).cells k
      ≡ cond (nat_lt k p.size.cols) (empty_cell p.attrs) default_cell
  cleared_at r k l =
      let wide = (i.sheet.each r l).wide in
      let n = length (row_at p.rows r).cells in
      ⊎_elim
      (λ (m : k < p.size.cols). cell_at-replicate n (empty_cell p.attrs) k (omega arith)
      ∙ sym (cond-true (nat_lt k p.size.cols) _ _ (lt-ltb k p.size.cols m)))
      (λ (m : p.size.cols ≤ k). cell_at_past (replicate n (empty_cell p.attrs)) k
      (omega (arith, length-replicate n (empty_cell p.attrs)))
      ∙ sym (cond-false (nat_lt k p.size.cols) _ _ (le-ltb k p.size.cols m)))
      (cases_lt k p.size.cols)

  cell_below : (r k : ℕ) → p.row < r
      → lines_of rows r k ≡ cond (nat_lt r p.size.rows && nat_lt k p.size.cols) (empty_cell p.attrs) default_cell
  cell_below r k h =
      ⊎_elim
      (λ (l : r < p.size.rows).
      ap (λ (v : RowView). cell_at v.cells k) (is_below r (omega (arith, i.full)) h)
      ∙ cleared_at r k (omega (arith, i.full))
      ∙ ap (λ b. cond (b && nat_lt k p.size.cols) (empty_cell p.attrs) default_cell) (sym (lt-ltb r p.size.rows l)))
      (λ (l : p.size.rows ≤ r).
      ap (λ f. f k) (lines-past rows r (omega (arith, i.full, length-rows_by_position (length p.rows) at)))
      ∙ ap (λ b. cond (b && nat_lt k p.size.cols) (empty_cell p.attrs) default_cell) (sym (le-ltb r p.size.rows l)))
      (cases_lt r p.size.rows)

  one : term_of_picture (record p { rows = wiped_one }) ≡ erase p.size p.size.cols (term_of_picture p)
  one = erased-is p p.size.cols i (omega arith)

  cell_at_each : (r k : ℕ) → lines_of rows r k ≡ (erase_below p.size (term_of_picture p)).cell r k
  unfolding erase_below
  cell_at_each r k =
      ⊎_elim
      (λ (h : p.row < r). cell_below r k h ∙ sym (cond-true (nat_lt p.row r) _ _ (lt-ltb p.row r h)))
      (λ (h : r ≤ p.row). ap (λ (v : RowView). cell_at v.cells k) (is_above r h)
      ∙ ap (λ (t : Term). t.cell r k) one
      ∙ sym (cond-false (nat_lt p.row r) _ _ (le-ltb p.row r h)))
      (cases_lt p.row r)

  wrap_below : (r : ℕ) → p.row < r → wraps_of rows r ≡ false
  wrap_below r h =
      ⊎_elim (λ (l : r < length p.rows). ap (λ (v : RowView). v.wrapped) (is_below r l h))
      (λ (l : length p.rows ≤ r). wraps-past rows r (omega (arith, length-rows_by_position (length p.rows) at)))
      (cases_lt r (length p.rows))

  wrap_at_each : (r : ℕ) → wraps_of rows r ≡ (erase_below p.size (term_of_picture p)).wrapped r
  unfolding erase_below
  wrap_at_each r =
      ⊎_elim
      (λ (h : p.row < r). wrap_below r h ∙ sym (cond-true (nat_lt p.row r) _ _ (lt-ltb p.row r h)))
      (λ (h : r ≤ p.row). ap (λ (v : RowView). v.wrapped) (is_above r h)
      ∙ ap (λ (t : Term). t.wrapped r) one
      ∙ sym (cond-false (nat_lt p.row r) _ _ (le-ltb p.row r h)))
      (cases_lt p.row r)

  pub erased_below-is : term_of_picture (record p { rows = rows }) ≡ erase_below p.size (term_of_picture p)
  unfolding erase_below erase with_line
  erased_below-is =
      let lines = fun_ext (λ r. fun_ext (λ k. cell_at_each r k)) in
      let flags = fun_ext (λ r. wrap_at_each r) in
      λ k. record (term_of_picture p) { cell = lines k; wrapped = flags k }
