-- Every call keeps the invariant of a picture.
use Rattle.std.proofs.Common.{◌≡◌, ℕ, ◌+◌, ◌-◌, ◌<◌, ◌≤◌, ◌==◌, true, false, cond, not, ◌&&◌, nat_lt, List, length}
use Rattle.std.proofs.Common.{set, Some, refl, ap, ◌∙◌, arith, length-set}
use Rattle.std.specs.Char.{IsScalar}
use Rattle.vt100_forms.specs.declared.attrs.Attrs.{Attrs}
use Rattle.std.proofs.lemmas.List.{length-replicate}
use Rattle.vt100_cells.specs.Cell.{CellView, IsCell, has_text, drawn_columns, appended_in_place, empty_cell}
use Rattle.vt100_cells.specs.Cells.{cell_at}
use Rattle.vt100_cells.specs.Line.{span_of, put, put_unflags, wiped, wipe_unflags, base_col, update}
use Rattle.vt100_cells.proofs.ListLemmas.{length-by_position}
use Rattle.vt100_rows.specs.Row.{RowView, placed, joined_in_place, wiped_row, with_wrap, cleared_row}
use Rattle.vt100_rows.proofs.RowLemmas.{IsRow-placed, IsRow-wiped, IsRow-with_wrap, IsRow-cleared}
use Rattle.vt100_rows.proofs.JoinLemmas.{IsRow-joined_in_place}
use Rattle.terminal_model.specs.Term.{Term}
use Rattle.vt100_rows.specs.Sheet.{row_at, rows_by_position, moved_up, IsRowOf, IsSheet, erased_forward_at}
use Rattle.vt100_rows.proofs.SheetLemmas.{IsSheet-with_row, IsSheet-by_position, IsRowOf-cond, wrapped-cond}
use Rattle.vt100_rows.proofs.SheetLemmas.{length-rows_by_position}
use Rattle.vt100_rows.proofs.MoveLemmas.{IsSheet-moved_up}
use Rattle.termview.specs.Picture.{PictureView, IsPicture, Becomes}
use Rattle.termview.proofs.RowTerms.{cursor_row, cursor_row-is, here}

pub IsPicture-at : (p q : PictureView) → p ≡ q → IsPicture q → IsPicture p
IsPicture-at p q e i = rw e i

pub Becomes-at : (p q r : PictureView) (t : Term) → q ≡ r → Becomes p r t → Becomes p q t
Becomes-at p q r t e b = rw e b

-- other rows, and the cursor in another column
pub IsPicture-rows : (p : PictureView) (rows : List RowView) (col : ℕ) → IsPicture p
    → IsSheet p.size.rows p.size.cols rows → length rows ≡ length p.rows → col ≤ p.size.cols
    → IsPicture (record p { rows = rows; col = col })
IsPicture-rows p rows col i s e h = record {
  sheet = s;
  full = e ∙ i.full;
  some_rows = i.some_rows;
  some_cols = i.some_cols;
  few_rows = i.few_rows;
  few_cols = i.few_cols;
  in_rows = i.in_rows;
  in_cols = h;
  saved_in_rows = i.saved_in_rows;
  saved_in_cols = i.saved_in_cols;
}

-- another row at the cursor, which goes on only where the one there did
pub IsPicture-row : (p : PictureView) (v : RowView) (col : ℕ) → IsPicture p → IsRowOf p.size.cols v
    → ((cursor_row p).wrapped ≡ false → v.wrapped ≡ false) → col ≤ p.size.cols
    → IsPicture (record p { rows = set p.rows p.row v; col = col })
IsPicture-row p v col i row keeps h =
    IsPicture-rows p (set p.rows p.row v) col i
    (IsSheet-with_row p.size.rows p.size.cols p.rows p.row v i.sheet (here p i) row
    (λ e. let at : p.row ≡ p.size.rows - 1 = omega (arith, e) in
    keeps (ap (λ k. (row_at p.rows k).wrapped) at ∙ i.sheet.last)))
    (length-set p.rows p.row v) h

-- ---- the edits of a picture's rows

abbrev pub put_at : PictureView → CellView → ℕ → PictureView
put_at p y n = record p { rows = set p.rows p.row (placed (cursor_row p) p.col y p.attrs); col = p.col + n }

pub IsPicture-put : (p : PictureView) (y : CellView) (n : ℕ) → IsPicture p → IsCell y → has_text y ≡ true
    → n ≡ span_of y → p.col + n ≤ p.size.cols → IsPicture (put_at p y n)
IsPicture-put p y n i cell text e h =
    let v = cursor_row p in
    let r = cursor_row-is p i in
    IsPicture-row p (placed v p.col y p.attrs) (p.col + n) i
    (record {
      row = IsRow-placed v p.col y p.attrs r.row cell text (omega (arith, r.wide, e));
      wide = length-by_position (length v.cells) (put (cell_at v.cells) p.col y p.attrs) ∙ r.wide;
    })
    (λ w. ap (λ b. b && not (put_unflags (length v.cells) (cell_at v.cells) p.col y)) w)
    h

abbrev pub joined_at : PictureView → ℕ → PictureView
joined_at p c = record p { rows = set p.rows p.row (joined_in_place (cursor_row p) p.col c) }

pub IsPicture-joined : (p : PictureView) (c : ℕ) → IsPicture p → IsScalar c → drawn_columns c ≡ Some 0 → 0 < p.col
    → IsPicture (joined_at p c)
IsPicture-joined p c i scalar zero_width h =
    let v = cursor_row p in
    let r = cursor_row-is p i in
    let f = cell_at v.cells in
    let j = base_col f p.col in
    IsPicture-row p (joined_in_place v p.col c) p.col i
    (record {
      row = IsRow-joined_in_place v p.col c r.row scalar zero_width h (omega (arith, r.wide, i.in_cols));
      wide = length-by_position (length v.cells) (update f j (appended_in_place (f j) c)) ∙ r.wide;
    })
    (λ w. w) i.in_cols

abbrev pub erased_at : PictureView → ℕ → PictureView
erased_at p end = record p { rows = set p.rows p.row (wiped_row (cursor_row p) p.col end p.attrs) }

pub IsPicture-erased : (p : PictureView) (end : ℕ) → IsPicture p → end ≤ p.size.cols → IsPicture (erased_at p end)
IsPicture-erased p end i h =
    let v = cursor_row p in
    let r = cursor_row-is p i in
    IsPicture-row p (wiped_row v p.col end p.attrs) p.col i
    (record {
      row = IsRow-wiped v p.col end p.attrs r.row (omega (arith, r.wide));
      wide = length-by_position (length v.cells) (wiped (cell_at v.cells) p.col end p.attrs) ∙ r.wide;
    })
    (λ w. ap (λ b. b && not (wipe_unflags (length v.cells) (cell_at v.cells) p.col end)) w) i.in_cols

abbrev pub flagged_at : PictureView → PictureView
flagged_at p = record p { rows = set p.rows (p.row - 1) (with_wrap (row_at p.rows (p.row - 1)) true) }

pub IsPicture-flagged : (p : PictureView) → IsPicture p → 0 < p.row → IsPicture (flagged_at p)
IsPicture-flagged p i h =
    let l = here p i in
    let v = row_at p.rows (p.row - 1) in
    let r = i.sheet.each (p.row - 1) (omega arith) in
    IsPicture-rows p (set p.rows (p.row - 1) (with_wrap v true)) p.col i
    (IsSheet-with_row p.size.rows p.size.cols p.rows (p.row - 1) (with_wrap v true) i.sheet (omega arith)
    (record { row = IsRow-with_wrap v true r.row; wide = r.wide }) (λ e. absurd (omega (arith, e, i.in_rows))))
    (length-set p.rows (p.row - 1) (with_wrap v true)) i.in_cols

abbrev pub scrolled_at : PictureView → PictureView
scrolled_at p = record p {
  rows = rows_by_position (length p.rows) (moved_up p.rows 0 (length p.rows) 1 p.size.cols);
}

pub IsPicture-scrolled : (p : PictureView) → IsPicture p → IsPicture (scrolled_at p)
IsPicture-scrolled p i =
    let n = length p.rows in
    IsPicture-rows p (rows_by_position n (moved_up p.rows 0 n 1 p.size.cols)) p.col i
    (IsSheet-moved_up p.size.rows p.size.cols p.rows 0 n 1 i.sheet i.some_rows i.few_cols (omega arith))
    (length-rows_by_position n (moved_up p.rows 0 n 1 p.size.cols)) i.in_cols

abbrev pub erased_below_at : PictureView → PictureView
erased_below_at p = record p {
  rows = rows_by_position (length p.rows) (erased_forward_at p.rows p.row p.col p.size.cols p.attrs);
}

IsRowOf-cleared : (width : ℕ) (v : RowView) (a : Attrs) → IsRowOf width v → IsRowOf width (cleared_row v a)
IsRowOf-cleared width v a r = record {
  row = IsRow-cleared v a r.row;
  wide = length-replicate (length v.cells) (empty_cell a) ∙ r.wide;
}

IsRowOf-wiped : (width : ℕ) (v : RowView) (s e : ℕ) (a : Attrs) → IsRowOf width v → e ≤ width
    → IsRowOf width (wiped_row v s e a)
IsRowOf-wiped width v s e a r h = record {
  row = IsRow-wiped v s e a r.row (omega (arith, r.wide));
  wide = length-by_position (length v.cells) (wiped (cell_at v.cells) s e a) ∙ r.wide;
}

wiped-wrapped : (v : RowView) (s e : ℕ) (a : Attrs) → v.wrapped ≡ false → (wiped_row v s e a).wrapped ≡ false
wiped-wrapped v s e a w = ap (λ b. b && not (wipe_unflags (length v.cells) (cell_at v.cells) s e)) w

pub IsPicture-erased_below : (p : PictureView) → IsPicture p → IsPicture (erased_below_at p)
IsPicture-erased_below p i =
    let n = length p.rows in
    let width = p.size.cols in
    let f = erased_forward_at p.rows p.row p.col width p.attrs in
    let last = p.size.rows - 1 in
    IsPicture-rows p (rows_by_position n f) p.col i
    (IsSheet-by_position p.size.rows width n f i.some_rows (λ _. i.full)
    (λ r l. IsRowOf-cond (nat_lt p.row r) width (cleared_row (row_at p.rows r) p.attrs)
    (cond (r == p.row) (wiped_row (row_at p.rows r) p.col width p.attrs) (row_at p.rows r))
    (λ _. IsRowOf-cleared width (row_at p.rows r) p.attrs (i.sheet.each r l))
    (λ _. IsRowOf-cond (r == p.row) width (wiped_row (row_at p.rows r) p.col width p.attrs) (row_at p.rows r)
    (λ _. IsRowOf-wiped width (row_at p.rows r) p.col width p.attrs (i.sheet.each r l) (omega arith))
    (λ _. i.sheet.each r l)))
    (λ _. wrapped-cond (nat_lt p.row last) (cleared_row (row_at p.rows last) p.attrs)
    (cond (last == p.row) (wiped_row (row_at p.rows last) p.col width p.attrs) (row_at p.rows last)) (λ _. refl)
    (λ _. wrapped-cond (last == p.row) (wiped_row (row_at p.rows last) p.col width p.attrs) (row_at p.rows last)
    (λ _. wiped-wrapped (row_at p.rows last) p.col width p.attrs i.sheet.last) (λ _. i.sheet.last))))
    (length-rows_by_position n f) i.in_cols
