-- Changed rows as the lines of a terminal.
use Rattle.std.proofs.Common.{◌≡◌, ℕ, ◌+◌, ◌-◌, ◌<◌, ◌≤◌, ◌==◌, Bool, true, false, cond, not, ◌&&◌, nat_lt, length}
use Rattle.std.specs.Prelude.{unwrap_or}
use Rattle.unicode_width.specs.Width.{char_width}
use Rattle.std.proofs.lemmas.Bool.Decides.{nat_tests}
use Rattle.std.proofs.Common.{min, set, sym, refl, ap, ◌∙◌, arith, subst}
use Rattle.std.proofs.lemmas.Bool.{cond_both, cond-true, cond-false, lt-ltb, le-ltb, eqb-true}
use Rattle.std.proofs.Math.Bool.{and-true, and-false}
use mathlib.Core.Path.{fun_ext}
use Rattle.vt100_forms.specs.declared.attrs.Attrs.{Attrs}
use Rattle.vt100_cells.specs.Cell.{CellView, appended_in_place, default_cell, is_filled, cell_of, columns_of}
use Rattle.vt100_cells.specs.Cells.{cell_at}
use Rattle.vt100_cells.specs.Line.{span_of, put, put_unflags, base_col, wipe_unflags}
use Rattle.vt100_cells.specs.Line.{update as changed}
use Rattle.vt100_cells.proofs.ListLemmas.{Bounded-row, cell_at-whole}
use Rattle.vt100_cells.proofs.JoinedCells.{base_col-within, Bounded-update}
use Rattle.vt100_rows.specs.Row.{RowView, placed, joined_in_place, wiped_row, with_wrap}
use Rattle.vt100_rows.proofs.RowLemmas.{line-placed, line-wiped}
use Rattle.terminal_model.specs.Position.{update}
use Rattle.terminal_model.specs.Term.{Size, Term}
use Rattle.terminal_model.specs.Apply.{with_line, print, join, erase, down}
use Rattle.vt100_rows.specs.Sheet.{row_at, rows_by_position, moved_up, IsRowOf}
use Rattle.vt100_rows.specs.Picture.{lines_of, wraps_of}
use Rattle.vt100_rows.proofs.PictureLemmas.{lines-set, wraps-set, lines-up, wraps-up}
use Rattle.termview.specs.Picture.{PictureView, term_of_picture, IsPicture}
use Rattle.termview.specs.Step.{flag_above}

-- ---- another row at the cursor

pub update-same : {A : Type 0} (f : ℕ → A) (i : ℕ) (v : A) → v ≡ f i → update f i v ≡ f
unfolding update
update-same f i v e = fun_ext (λ k. cond_both (k == i) v (f k) (λ w. w ≡ f k)
    (λ h. e ∙ ap f (sym (eqb-true k i h))) (λ _. refl))

flags-stay : (w : ℕ → Bool) (i : ℕ) (b stays : Bool) → b ≡ (w i && stays)
    → update w i b ≡ cond stays w (update w i false)
flags-stay w i b true e = update-same w i b (e ∙ and-true (w i))
flags-stay w i b false e = ap (update w i) (e ∙ and-false (w i))

pub here : (p : PictureView) → IsPicture p → p.row < length p.rows
here p i = omega (arith, i.full, i.in_rows)

-- the cursor's row
abbrev pub cursor_row : PictureView → RowView
cursor_row p = row_at p.rows p.row

pub cursor_row-is : (p : PictureView) → IsPicture p → IsRowOf p.size.cols (cursor_row p)
cursor_row-is p i = i.sheet.each p.row (here p i)

-- n columns from the cursor's on are within its row, as code reads it: the picture p is what the fields f give
pub row-fits : {f p : PictureView} {r : ℕ} {v : RowView} (n : ℕ) → f ≡ p → IsPicture f → r ≡ f.row
    → v ≡ row_at f.rows r → p.col + n ≤ p.size.cols → f.col + n ≤ length v.cells
row-fits {f} {p} {r} {v} n e i er ev h =
    let within : r < length f.rows = omega (arith, er, here f i) in
    let is = ap (λ (u : RowView). length u.cells) ev in
    let fits = subst (λ (x : PictureView). x.col + n ≤ x.size.cols) (sym e) h in
    omega (arith, is, (i.sheet.each r within).wide, fits)

with_line-is : (p : PictureView) (v : RowView) (stays : Bool) → p.row < length p.rows
    → v.wrapped ≡ ((cursor_row p).wrapped && stays)
    → term_of_picture (record p { rows = set p.rows p.row v }) ≡ with_line (term_of_picture p) (cell_at v.cells) stays
unfolding with_line
with_line-is p v stays l e =
    let lines = lines-set p.rows p.row v l in
    let flags = wraps-set p.rows p.row v l ∙ flags-stay (wraps_of p.rows) p.row v.wrapped stays e in
    λ i. record (term_of_picture p) { cell = lines i; wrapped = flags i }

span-same : (k n : ℕ) → min 2 k ≡ n → 0 < n → n ≡ cond (n == 2) 2 1
span-same k n e h = grind (arith, nat_tests)

pub span_of-cell : (c n : ℕ) (a : Attrs) → columns_of c ≡ n → 0 < n → n ≡ span_of (cell_of c a)
span_of-cell c n a e h = span-same (unwrap_or (char_width false c) 1) n e h ∙ ap (λ m. cond (m == 2) 2 1) (sym e)

-- a cell that is put at the cursor is printed
pub printed-is : (p : PictureView) (y : CellView) (n : ℕ) → IsPicture p → n ≡ span_of y → p.col + n ≤ p.size.cols
    → term_of_picture (record p { rows = set p.rows p.row (placed (cursor_row p) p.col y p.attrs); col = p.col + n })
    ≡ print p.size y (term_of_picture p)
unfolding print
printed-is p y n i e l =
    let r = cursor_row-is p i in
    let v = cursor_row p in
    let f = cell_at v.cells in
    let line = line-placed v p.col y p.attrs r.row (omega (arith, r.wide, e)) in
    let at = with_line-is p (placed v p.col y p.attrs) (not (put_unflags p.size.cols f p.col y)) (here p i)
    (ap (λ m. v.wrapped && not (put_unflags m f p.col y)) r.wide) in
    ap (λ (t : Term). record t { col = p.col + n }) at
    ∙ ap (λ h. record (with_line (term_of_picture p) h (not (put_unflags p.size.cols f p.col y))) { col = p.col + n })
    line
    ∙ ap (λ m. record (with_line (term_of_picture p) (put f p.col y p.attrs) (not (put_unflags p.size.cols f p.col y))) {
      col = p.col + m;
    }) e

-- a zero-width character joins
pub joined-is : (p : PictureView) (c : ℕ) → IsPicture p → 0 < p.col
    → term_of_picture (record p { rows = set p.rows p.row (joined_in_place (cursor_row p) p.col c) })
    ≡ join c (term_of_picture p)
unfolding join update
joined-is p c i h =
    let v = cursor_row p in
    let f = cell_at v.cells in
    let j = base_col f p.col in
    let r = cursor_row-is p i in
    let n = length v.cells in
    let line = cell_at-whole n (changed f j (appended_in_place (f j) c))
    (Bounded-update n f j (appended_in_place (f j) c) (Bounded-row v.cells)
    (base_col-within f n p.col h (omega (arith, r.wide, i.in_cols)))) in
    with_line-is p (joined_in_place v p.col c) true (here p i) (sym (and-true v.wrapped))
    ∙ ap (λ l. with_line (term_of_picture p) l true) line

-- columns are erased
pub erased-is : (p : PictureView) (end : ℕ) → IsPicture p → end ≤ p.size.cols
    → term_of_picture (record p { rows = set p.rows p.row (wiped_row (cursor_row p) p.col end p.attrs) })
    ≡ erase p.size end (term_of_picture p)
unfolding erase
erased-is p end i l =
    let r = cursor_row-is p i in
    let v = cursor_row p in
    let f = cell_at v.cells in
    with_line-is p (wiped_row v p.col end p.attrs) (not (wipe_unflags p.size.cols f p.col end)) (here p i)
    (ap (λ m. v.wrapped && not (wipe_unflags m f p.col end)) r.wide)
    ∙ ap (λ h. with_line (term_of_picture p) h (not (wipe_unflags p.size.cols f p.col end)))
    (line-wiped v p.col end p.attrs (omega (arith, r.wide)))

-- ---- the next row

pub down-stays : (z : Size) (t : Term) → t.row + 1 < z.rows → down z t ≡ record t { row = t.row + 1 }
unfolding down
down-stays z t h = cond-true (nat_lt (t.row + 1) z.rows) _ _ (lt-ltb (t.row + 1) z.rows h)

pub down-up : (z : Size) (t : Term) → z.rows ≤ t.row + 1 → down z t ≡ record t {
  cell = (λ r. cond (nat_lt (r + 1) z.rows) (t.cell (r + 1)) (λ k. default_cell));
  wrapped = (λ r. nat_lt (r + 1) z.rows && t.wrapped (r + 1));
}
unfolding down
down-up z t h = cond-false (nat_lt (t.row + 1) z.rows) _ _ (le-ltb (t.row + 1) z.rows h)

pub scrolled-is : (p : PictureView) (width : ℕ) → IsPicture p → p.size.rows ≤ p.row + 1
    → term_of_picture (record p { rows = rows_by_position (length p.rows) (moved_up p.rows 0 (length p.rows) 1 width) })
    ≡ down p.size (term_of_picture p)
scrolled-is p width i h =
    let lines = lines-up p.rows width
    ∙ ap (λ n r. cond (nat_lt (r + 1) n) (lines_of p.rows (r + 1)) (λ k. default_cell)) i.full in
    let flags = wraps-up p.rows width ∙ ap (λ n r. nat_lt (r + 1) n && wraps_of p.rows (r + 1)) i.full in
    (λ k. record (term_of_picture p) { cell = lines k; wrapped = flags k })
    ∙ sym (down-up p.size (term_of_picture p) h)

-- the row above the cursor is flagged as wrapped
pub flagged-is : (p : PictureView) → IsPicture p → 0 < p.row
    → term_of_picture (record p { rows = set p.rows (p.row - 1) (with_wrap (row_at p.rows (p.row - 1)) true) })
    ≡ flag_above p.size (term_of_picture p)
unfolding flag_above
flagged-is p i h =
    let l = here p i in
    let r = i.sheet.each (p.row - 1) (omega arith) in
    let v = with_wrap (row_at p.rows (p.row - 1)) true in
    let lines = lines-set p.rows (p.row - 1) v (omega arith)
    ∙ update-same (lines_of p.rows) (p.row - 1) (cell_at v.cells) refl in
    let flags = wraps-set p.rows (p.row - 1) v (omega arith)
    ∙ ap (λ n. update (wraps_of p.rows) (p.row - 1) (is_filled (lines_of p.rows (p.row - 1) (n - 1)))) r.wide in
    λ k. record (term_of_picture p) { cell = lines k; wrapped = flags k }
