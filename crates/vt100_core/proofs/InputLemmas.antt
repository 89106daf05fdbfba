-- Printing on a grid is input to the terminal that shows its rows.
use Rattle.std.proofs.Common.{◌≡◌, ℕ, ◌+◌, ◌-◌, ◌^◌, ◌<◌, ◌≤◌, ◌==◌, Bool, true, false, cond, not, ◌&&◌, ◌||◌, nat_lt}
use Rattle.std.proofs.Common.{nat_le, List, [], length, set, min, sym, refl, ap, subst, ◌∙◌, arith, length-set, ⊎_elim}
use Rattle.std.proofs.lemmas.Bool.{cond_both, cond-true, cond-false, lt-ltb, le-ltb, ne_eqb, eqb-true}
use Rattle.std.proofs.lemmas.Bool.{eq-eqb, cases_lt, cases_Bool}
use Rattle.std.proofs.lemmas.Bool.Decides.{nat_tests}
use mathlib.Core.Path.{fun_ext}
use Rattle.vt100_forms.specs.declared.attrs.Attrs.{Attrs}
use Rattle.vt100_cells.specs.Cell.{CellView, cell_of, columns_of, is_filled, is_widened_by, has_room, text_with}
use Rattle.vt100_cells.specs.Cell.{appended, appended_in_place, default_cell}
use Rattle.vt100_cells.specs.Cells.{cell_at}
use Rattle.vt100_cells.specs.Line.{span_of, put, put_unflags, base_col}
use Rattle.vt100_cells.specs.Line.{update as changed}
use Rattle.vt100_cells.proofs.ListLemmas.{Bounded-row, cell_at-whole}
use Rattle.vt100_cells.proofs.JoinedCells.{base_col-within, Bounded-update}
use Rattle.vt100_rows.specs.Row.{RowView, with_wrap, placed, joined_row, is_widening}
use Rattle.vt100_rows.proofs.RowLemmas.{line-placed, IsRow-with_wrap}
use Rattle.terminal_model.specs.Position.{update}
use Rattle.terminal_model.specs.Term.{Size, Term}
use Rattle.terminal_model.specs.Apply.{with_line, print, join, down, wrap, is_dropped, input}
use Rattle.terminal_model.specs.Apply.{made_to_fit as fitted}
use Rattle.vt100_rows.specs.Sheet.{row_at, rows_by_position, moved_up, IsSheet, IsRowOf}
use Rattle.vt100_rows.specs.Picture.{lines_of, wraps_of}
use Rattle.vt100_rows.proofs.SheetLemmas.{IsSheet-with_row, row_at-by_position, length-rows_by_position}
use Rattle.vt100_rows.proofs.SheetLemmas.{rows_by_position_is}
use Rattle.vt100_rows.proofs.MoveLemmas.{IsSheet-moved_up}
use Rattle.vt100_rows.proofs.PictureLemmas.{lines-set, wraps-set, lines-up, wraps-up}
use Rattle.vt100_core.specs.Grid.{KeptPart, GridView, row_of_cursor, with_cursor_row, with_row, is_in_region}
use Rattle.vt100_core.specs.Picture.{grid_size, Extras, term_of_grid, IsPlain, widens, EachPrintIsInput}
use Rattle.vt100_core.specs.Scroll.{Scrolled, made_to_fit, wrapped_on, fed, scrolled_up}
use Rattle.vt100_core.specs.Scroll.{left_row}
use Rattle.vt100_core.specs.Text.{PrintedGrid, put_at, spaced, joined}
use Rattle.vt100_core.proofs.TextLemmas.{printed-dropped, printed-joined, printed-spaced, IsDrawn-here, span_of-cell}
use Rattle.vt100_core.proofs.TextLemmas.{IsMade-made}

-- what printing needs of a grid whose region is the whole screen
pub record IsDrawable (g : GridView) : Type 0 where
  pub sheet : IsSheet g.height g.width g.rows
  pub some : 0 < length g.rows
  pub few_rows : g.height < 2 ^ 16
  pub few_cols : g.width < 2 ^ 16
  pub row : g.row < g.height
  pub col : g.col ≤ g.width
  pub top : g.top ≡ 0
  pub bottom : g.bottom + 1 ≡ g.height

pub here : (g : GridView) → IsDrawable g → g.row < length g.rows
here g d = omega (arith, d.sheet.count d.some, d.row)

pub cursor_row : (g : GridView) → IsDrawable g → IsRowOf g.width (row_of_cursor g)
cursor_row g d = d.sheet.each g.row (here g d)

-- other rows, another cursor and other kept rows
pub IsDrawable-parts : (g : GridView) (rows : List RowView) (row col : ℕ) (k : KeptPart) → IsDrawable g
    → IsSheet g.height g.width rows → 0 < length rows → row < g.height → col ≤ g.width
    → IsDrawable (record g { rows = rows; row = row; col = col; kept = k })
IsDrawable-parts g rows row col k d sheet some in_rows in_cols = record {
  sheet = sheet;
  some = some;
  few_rows = d.few_rows;
  few_cols = d.few_cols;
  row = in_rows;
  col = in_cols;
  top = d.top;
  bottom = d.bottom;
}

pub IsDrawable-col : (g : GridView) (col : ℕ) → IsDrawable g → col ≤ g.width → IsDrawable (record g { col = col })
IsDrawable-col g col d h = IsDrawable-parts g g.rows g.row col g.kept d d.sheet d.some d.row h

-- ---- another row at the cursor

both-true : (b : Bool) → (b && true) ≡ b
both-true true = refl
both-true false = refl

both-false : (b : Bool) → (b && false) ≡ false
both-false true = refl
both-false false = refl

update-same : {A : Type 0} (f : ℕ → A) (i : ℕ) (v : A) → v ≡ f i → update f i v ≡ f
unfolding update
update-same f i v e = fun_ext (λ k. cond_both (k == i) v (f k) (λ w. w ≡ f k)
    (λ h. e ∙ ap f (sym (eqb-true k i h))) (λ _. refl))

flags-stay : (w : ℕ → Bool) (i : ℕ) (b stays : Bool) → b ≡ (w i && stays)
    → update w i b ≡ cond stays w (update w i false)
flags-stay w i b true e = update-same w i b (e ∙ both-true (w i))
flags-stay w i b false e = ap (update w i) (e ∙ both-false (w i))

pub with_line-is : (g : GridView) (x : Extras) (v : RowView) (stays : Bool) → g.row < length g.rows
    → v.wrapped ≡ ((row_of_cursor g).wrapped && stays)
    → term_of_grid (with_cursor_row g v) x ≡ with_line (term_of_grid g x) (cell_at v.cells) stays
unfolding with_line
with_line-is g x v stays l e =
    let lines = lines-set g.rows g.row v l in
    let flags = wraps-set g.rows g.row v l ∙ flags-stay (wraps_of g.rows) g.row v.wrapped stays e in
    λ i. record (term_of_grid g x) { cell = lines i; wrapped = flags i }

-- a cell that is put at the cursor is printed
print-is : (g : GridView) (x : Extras) (y : CellView) (n : ℕ) → IsDrawable g → n ≡ span_of y → g.col + n ≤ g.width
    → term_of_grid (put_at g y x.attrs n) x ≡ print (grid_size g) y (term_of_grid g x)
unfolding print
print-is g x y n d e l =
    let r = cursor_row g d in
    let v = row_of_cursor g in
    let f = cell_at v.cells in
    let line = line-placed v g.col y x.attrs r.row (omega (arith, r.wide, e)) in
    let at = with_line-is g x (placed v g.col y x.attrs) (not (put_unflags g.width f g.col y)) (here g d)
    (ap (λ m. v.wrapped && not (put_unflags m f g.col y)) r.wide) in
    ap (λ (t : Term). record t { col = g.col + n }) at
    ∙ ap (λ h. record (with_line (term_of_grid g x) h (not (put_unflags g.width f g.col y))) { col = g.col + n }) line
    ∙ ap (λ m. record (with_line (term_of_grid g x) (put f g.col y x.attrs) (not (put_unflags g.width f g.col y))) {
      col = g.col + m;
    }) e

-- ---- the next row

in-region : (g : GridView) → IsDrawable g → is_in_region g ≡ true
in-region g d = grind (arith, nat_tests, d.top, d.bottom, d.row)

feeds : (g : GridView) → is_in_region g ≡ true
    → fed g 1 ≡ scrolled_up (record g { row = min (g.row + 1) g.bottom }) (min (g.row + 1) 65535 - g.bottom)
unfolding fed
feeds g e = rw e

moves-none : (rows : List RowView) (end width k : ℕ) → k < end → row_at rows k ≡ moved_up rows 0 end 0 width k
moves-none rows end width k h = grind (arith, nat_tests)

-- the rows after a line feed, where n rows go at the top
abbrev pub fed_rows : GridView → ℕ → List RowView
fed_rows g n = rows_by_position (length g.rows) (moved_up g.rows 0 (length g.rows) n g.width)

fed-same : (g : GridView) (n count : ℕ) → IsDrawable g → count ≡ n
    → rows_by_position (length g.rows) (moved_up g.rows g.top (g.bottom + 1) count g.width) ≡ fed_rows g n
fed-same g n count d e =
    let end : g.bottom + 1 ≡ length g.rows = d.bottom ∙ sym (d.sheet.count d.some) in
    λ i. rows_by_position (length g.rows) (moved_up g.rows (d.top i) (end i) (e i) g.width)

-- but for what is kept
pub fed-is : (g : GridView) (n m : ℕ) → IsDrawable g
    → min (min (g.row + 1) 65535 - g.bottom) (g.bottom + 1 - g.top) ≡ n → min (g.row + 1) g.bottom ≡ m
    → record ((fed g 1).grid) { kept = g.kept } ≡ record g { rows = fed_rows g n; row = m }
unfolding scrolled_up
fed-is g n m d en em =
    let rows = fed-same g n (min (min (g.row + 1) 65535 - g.bottom) (g.bottom + 1 - g.top)) d en in
    ap (λ (s : Scrolled). record (s.grid) { kept = g.kept }) (feeds g (in-region g d))
    ∙ (λ i. record g { rows = rows i; row = em i })

pub fed_rows-none : (g : GridView) → fed_rows g 0 ≡ g.rows
fed_rows-none g = sym (rows_by_position_is (length g.rows) (moved_up g.rows 0 (length g.rows) 0 g.width) g.rows refl
    (λ k h. moves-none g.rows (length g.rows) g.width k h))

-- ---- the row goes on in the next one

-- the row that the cursor leaves gets its flag
abbrev flagged : GridView → GridView → GridView
flagged g h = cond ((g.row == g.bottom) && (g.row == 0)) h
    (with_row h (left_row g) (with_wrap (row_at h.rows (left_row g)) (true && ((left_row g + 1) == h.row))))

kept-aside : (b : Bool) (g h : GridView) (r : ℕ) (v : RowView)
    → record (cond b h (with_row h r v)) { kept = g.kept }
    ≡ cond b (record h { kept = g.kept }) (with_row (record h { kept = g.kept }) r v)
kept-aside true g h r v = refl
kept-aside false g h r v = refl

wrapped-is : (g : GridView) (n m : ℕ) → IsDrawable g
    → min (min (g.row + 1) 65535 - g.bottom) (g.bottom + 1 - g.top) ≡ n → min (g.row + 1) g.bottom ≡ m
    → record ((wrapped_on g true).grid) { kept = g.kept }
    ≡ flagged g (record g { col = 0; rows = fed_rows g n; row = m })
unfolding wrapped_on
wrapped-is g n m d en em =
    let g0 = record g { col = 0 } in
    let h = (fed g0 1).grid in
    kept-aside ((g.row == g.bottom) && (g.row == 0)) g h (left_row g)
    (with_wrap (row_at h.rows (left_row g)) (true && ((left_row g + 1) == h.row)))
    ∙ ap (flagged g) (fed-is g0 n m (IsDrawable-col g 0 d (omega arith)) en em)

-- the last column of the cursor's row
abbrev is_full : GridView → Bool
is_full g = is_filled (lines_of g.rows g.row (g.width - 1))

full-row : (g : GridView) → IsDrawable g → (with_wrap (row_of_cursor g) true).wrapped ≡ is_full g
full-row g d = ap (λ n. is_filled (lines_of g.rows g.row (n - 1))) (cursor_row g d).wide

IsRowOf-full : (g : GridView) → IsDrawable g → IsRowOf g.width (with_wrap (row_of_cursor g) true)
IsRowOf-full g d = record {
  row = IsRow-with_wrap (row_of_cursor g) true (cursor_row g d).row;
  wide = (cursor_row g d).wide;
}

-- in the middle of the screen
abbrev gone_on : GridView → GridView
gone_on g = record g { rows = set g.rows g.row (with_wrap (row_of_cursor g) true); col = 0; row = g.row + 1 }

flagged-middle : (g : GridView) → IsDrawable g → g.row + 1 < g.height
    → flagged g (record g { col = 0; rows = fed_rows g 0; row = g.row + 1 }) ≡ gone_on g
flagged-middle g d l =
    let middle : (g.row == g.bottom) ≡ false = ne_eqb g.row g.bottom (λ e. absurd (omega (arith, d.bottom, e))) in
    rw (middle, eq-eqb (g.row + 1) (g.row + 1) refl, fed_rows-none g)

-- in the last row
abbrev gone_up : GridView → GridView
gone_up g = record g {
  rows = set (fed_rows g 1) (g.row - 1) (with_wrap (row_of_cursor g) true);
  col = 0;
}

moves-from : (rows : List RowView) (end width k : ℕ) → k + 1 < end
    → moved_up rows 0 end 1 width k ≡ row_at rows (k + 1)
moves-from rows end width k h = grind (arith, nat_tests)

moves-one : (rows : List RowView) (end width row : ℕ) → 0 < row → row + 1 ≡ end
    → moved_up rows 0 end 1 width (row - 1) ≡ row_at rows row
moves-one rows end width row h e =
    let k : row - 1 + 1 ≡ row = omega arith in moves-from rows end width (row - 1) (omega arith) ∙ ap (row_at rows) k

fed_row-above : (g : GridView) → IsDrawable g → 0 < g.row → g.row + 1 ≡ g.height
    → row_at (fed_rows g 1) (g.row - 1) ≡ row_of_cursor g
fed_row-above g d h e =
    row_at-by_position (length g.rows) (moved_up g.rows 0 (length g.rows) 1 g.width) (g.row - 1)
    (omega (arith, here g d))
    ∙ moves-one g.rows (length g.rows) g.width g.row h (e ∙ sym (d.sheet.count d.some))

flagged-last : (g : GridView) → IsDrawable g → 0 < g.row → g.row + 1 ≡ g.height
    → flagged g (record g { col = 0; rows = fed_rows g 1; row = g.row }) ≡ gone_up g
flagged-last g d h e =
    let last : (g.row == g.bottom) ≡ true = eq-eqb g.row g.bottom (omega (arith, d.bottom)) in
    let later : (g.row == 0) ≡ false = ne_eqb g.row 0 (λ z. absurd (omega (arith, z))) in
    rw (last, later, eq-eqb (g.row - 1 + 1) g.row (omega arith), fed_row-above g d h e)

flagged-only : (g : GridView) → IsDrawable g → g.row ≡ 0 → g.row + 1 ≡ g.height
    → flagged g (record g { col = 0; rows = fed_rows g 1; row = g.row })
    ≡ record g { col = 0; rows = fed_rows g 1 }
flagged-only g d z e =
    let last : (g.row == g.bottom) ≡ true = eq-eqb g.row g.bottom (omega (arith, d.bottom)) in
    let first : (g.row == 0) ≡ true = eq-eqb g.row 0 z in
    rw (last, first)

-- ---- what that is in the picture

pub down-stays : (z : Size) (t : Term) → t.row + 1 < z.rows → down z t ≡ record t { row = t.row + 1 }
unfolding down
down-stays z t h = cond-true (nat_lt (t.row + 1) z.rows) _ _ (lt-ltb (t.row + 1) z.rows h)

pub down-up : (z : Size) (t : Term) → z.rows ≤ t.row + 1 → down z t ≡ record t {
  cell = (λ r. cond (nat_lt (r + 1) z.rows) (t.cell (r + 1)) (λ k. default_cell));
  wrapped = (λ r. nat_lt (r + 1) z.rows && t.wrapped (r + 1));
}
unfolding down
down-up z t h = cond-false (nat_lt (t.row + 1) z.rows) _ _ (le-ltb (t.row + 1) z.rows h)

flags-up : (w : ℕ → Bool) (row n : ℕ) (b : Bool) (r : ℕ) → 0 < row → row + 1 ≡ n
    → update (λ k. nat_lt (k + 1) n && w (k + 1)) (row - 1) b r ≡ (nat_lt (r + 1) n && update w row b (r + 1))
unfolding update
flags-up w row n b r h e = grind (arith, nat_tests)

flags-first : (w : ℕ → Bool) (row n : ℕ) (b : Bool) (r : ℕ) → row ≡ 0
    → (nat_lt (r + 1) n && w (r + 1)) ≡ (nat_lt (r + 1) n && update w row b (r + 1))
unfolding update
flags-first w row n b r z = grind (arith, nat_tests)

term-middle : (g : GridView) (x : Extras) → IsDrawable g → g.row + 1 < g.height
    → term_of_grid (gone_on g) x ≡ wrap (grid_size g) (term_of_grid g x)
unfolding wrap
term-middle g x d l =
    let v = with_wrap (row_of_cursor g) true in
    let lines = lines-set g.rows g.row v (here g d) ∙ update-same (lines_of g.rows) g.row (cell_at v.cells) refl in
    let flags = wraps-set g.rows g.row v (here g d) ∙ ap (update (wraps_of g.rows) g.row) (full-row g d) in
    (λ i. record (term_of_grid g x) { cell = lines i; wrapped = flags i; col = 0; row = g.row + 1 })
    ∙ sym (down-stays (grid_size g) (record (term_of_grid g x) {
      wrapped = update (wraps_of g.rows) g.row (is_full g);
      col = 0;
    }) l)

-- the lines and flags of the rows that went up by one
pub lines-fed : (g : GridView) → IsDrawable g → lines_of (fed_rows g 1)
    ≡ (λ r. cond (nat_lt (r + 1) g.height) (lines_of g.rows (r + 1)) (λ k. default_cell))
lines-fed g d =
    lines-up g.rows g.width
    ∙ ap (λ n r. cond (nat_lt (r + 1) n) (lines_of g.rows (r + 1)) (λ k. default_cell)) (d.sheet.count d.some)

pub wraps-fed : (g : GridView) → IsDrawable g
    → wraps_of (fed_rows g 1) ≡ (λ r. nat_lt (r + 1) g.height && wraps_of g.rows (r + 1))
wraps-fed g d =
    wraps-up g.rows g.width ∙ ap (λ n r. nat_lt (r + 1) n && wraps_of g.rows (r + 1)) (d.sheet.count d.some)

term-last : (g : GridView) (x : Extras) → IsDrawable g → 0 < g.row → g.row + 1 ≡ g.height
    → term_of_grid (gone_up g) x ≡ wrap (grid_size g) (term_of_grid g x)
unfolding wrap
term-last g x d h e =
    let v = with_wrap (row_of_cursor g) true in
    let rows = fed_rows g 1 in
    let count = length-rows_by_position (length g.rows) (moved_up g.rows 0 (length g.rows) 1 g.width) in
    let within : g.row - 1 < length rows = omega (arith, count, here g d) in
    let lines =
    lines-set rows (g.row - 1) v within
    ∙ update-same (lines_of rows) (g.row - 1) (cell_at v.cells)
    (ap (λ (w : RowView). cell_at w.cells) (sym (fed_row-above g d h e)))
    ∙ lines-fed g d in
    let flags =
    wraps-set rows (g.row - 1) v within
    ∙ ap (update (wraps_of rows) (g.row - 1)) (full-row g d)
    ∙ ap (λ w. update w (g.row - 1) (is_full g)) (wraps-fed g d)
    ∙ fun_ext (λ r. flags-up (wraps_of g.rows) g.row g.height (is_full g) r h e) in
    (λ i. record (term_of_grid g x) { cell = lines i; wrapped = flags i; col = 0 })
    ∙ sym (down-up (grid_size g) (record (term_of_grid g x) {
      wrapped = update (wraps_of g.rows) g.row (is_full g);
      col = 0;
    }) (omega arith))

term-only : (g : GridView) (x : Extras) → IsDrawable g → g.row ≡ 0 → g.row + 1 ≡ g.height
    → term_of_grid (record g { col = 0; rows = fed_rows g 1 }) x ≡ wrap (grid_size g) (term_of_grid g x)
unfolding wrap
term-only g x d z e =
    let lines = lines-fed g d in
    let flags =
    wraps-fed g d ∙ fun_ext (λ r. flags-first (wraps_of g.rows) g.row g.height (is_full g) r z) in
    (λ i. record (term_of_grid g x) { cell = lines i; wrapped = flags i; col = 0 })
    ∙ sym (down-up (grid_size g) (record (term_of_grid g x) {
      wrapped = update (wraps_of g.rows) g.row (is_full g);
      col = 0;
    }) (omega arith))

-- ---- what stays true of the grid

IsDrawable-rows : (g : GridView) (rows : List RowView) (row : ℕ) → IsDrawable g → IsSheet g.height g.width rows
    → length rows ≡ length g.rows → row < g.height → IsDrawable (record g { rows = rows; col = 0; row = row })
IsDrawable-rows g rows row d s count h =
    IsDrawable-parts g rows row 0 g.kept d s (omega (arith, d.some)) h (omega arith)

IsSheet-fed : (g : GridView) → IsDrawable g → IsSheet g.height g.width (fed_rows g 1)
IsSheet-fed g d = IsSheet-moved_up g.height g.width g.rows 0 (length g.rows) 1 d.sheet (omega (arith, d.row)) d.few_cols
    (omega arith)

-- a grid that shows what `t` shows, is as large as g, and can be drawn on
pub record IsNext (g : GridView) (x : Extras) (t : Term) (h : GridView) : Type 0 where
  pub shows : term_of_grid h x ≡ t
  pub size : grid_size h ≡ grid_size g
  pub drawable : IsDrawable h

IsNext-kept : (g h h' : GridView) (x : Extras) (t : Term) → record h { kept = g.kept } ≡ h' → IsNext g x t h'
    → IsNext g x t h
IsNext-kept g h h' x t e n =
    let bare : IsNext g x t (record h { kept = g.kept }) = subst (IsNext g x t) (sym e) n in
    let d = bare.drawable in
    record {
      shows = bare.shows;
      size = bare.size;
      drawable = IsDrawable-parts (record h { kept = g.kept }) h.rows h.row h.col h.kept d d.sheet d.some d.row d.col;
    }

IsNext-wrapped : (g : GridView) (x : Extras) → IsDrawable g
    → IsNext g x (wrap (grid_size g) (term_of_grid g x)) (wrapped_on g true).grid
IsNext-wrapped g x d =
    let rows = d.sheet.count d.some in
    let v = with_wrap (row_of_cursor g) true in
    let count = length-rows_by_position (length g.rows) (moved_up g.rows 0 (length g.rows) 1 g.width) in
    ⊎_elim
    (λ (l : g.row + 1 < g.height).
    IsNext-kept g (wrapped_on g true).grid (gone_on g) x (wrap (grid_size g) (term_of_grid g x))
    (wrapped-is g 0 (g.row + 1) d (omega (arith, d.bottom)) (omega (arith, d.bottom)) ∙ flagged-middle g d l)
    (record {
      shows = term-middle g x d l;
      size = refl;
      drawable = IsDrawable-rows g (set g.rows g.row v) (g.row + 1) d
          (IsSheet-with_row g.height g.width g.rows g.row v d.sheet (here g d) (IsRowOf-full g d)
          (λ e. absurd (omega arith)))
          (length-set g.rows g.row v) l;
    }))
    (λ (m : g.height ≤ g.row + 1).
    let e : g.row + 1 ≡ g.height = omega (arith, d.row) in
    let is = wrapped-is g 1 g.row d (omega (arith, d.bottom, d.top, d.few_rows)) (omega (arith, d.bottom)) in
    ⊎_elim
    (λ (h : 0 < g.row).
    IsNext-kept g (wrapped_on g true).grid (gone_up g) x (wrap (grid_size g) (term_of_grid g x))
    (is ∙ flagged-last g d h e)
    (record {
      shows = term-last g x d h e;
      size = refl;
      drawable = IsDrawable-rows g (set (fed_rows g 1) (g.row - 1) v) g.row d
          (IsSheet-with_row g.height g.width (fed_rows g 1) (g.row - 1) v (IsSheet-fed g d)
          (omega (arith, count, here g d)) (IsRowOf-full g d) (λ q. absurd (omega (arith, q))))
          (length-set (fed_rows g 1) (g.row - 1) v ∙ count) d.row;
    }))
    (λ (z : g.row ≤ 0).
    IsNext-kept g (wrapped_on g true).grid (record g { col = 0; rows = fed_rows g 1 }) x
    (wrap (grid_size g) (term_of_grid g x)) (is ∙ flagged-only g d (omega arith) e)
    (record {
      shows = term-only g x d (omega arith) e;
      size = refl;
      drawable = IsDrawable-rows g (fed_rows g 1) g.row d (IsSheet-fed g d) count d.row;
    }))
    (cases_lt 0 g.row))
    (cases_lt (g.row + 1) g.height)

pub IsNext-made : (g : GridView) (x : Extras) (n : ℕ) → IsDrawable g
    → IsNext g x (fitted (grid_size g) n (term_of_grid g x)) (made_to_fit g n true).grid
unfolding fitted
IsNext-made g x n d =
    (elim (nat_le (g.col + n) g.width) as
    (λ b. IsNext g x (cond b (term_of_grid g x) (wrap (grid_size g) (term_of_grid g x)))
    (cond b (let s : Scrolled = record { grid = g; sunk = [] } in s) (wrapped_on g true)).grid) [
      | true ↦ record { shows = refl; size = refl; drawable = d }
      | false ↦ IsNext-wrapped g x d
    ])

-- ---- a character of one or two columns

pub spaced-is : (g : GridView) (x : Extras) (c : ℕ) → IsDrawable g → 0 < columns_of c → columns_of c ≤ g.width
    → term_of_grid (spaced g c x.attrs).grid x
    ≡ print (grid_size g) (cell_of c x.attrs) (fitted (grid_size g) (columns_of c) (term_of_grid g x))
spaced-is g x c d some h =
    let y = cell_of c x.attrs in
    let n = columns_of c in
    let s = (made_to_fit g n true).grid in
    let next = IsNext-made g x n d in
    print-is s x y n next.drawable (span_of-cell c n x.attrs refl some) (IsMade-made g n true h).fits
    ∙ ap (λ z. print z y (term_of_grid s x)) next.size ∙ ap (print (grid_size g) y) next.shows

-- ---- a character of none

pub joined-plain : (g : GridView) (c : ℕ) (a : Attrs) → is_widening (row_of_cursor g) g.col c ≡ false
    → (joined g c a).grid ≡ with_cursor_row g (joined_row (row_of_cursor g) g.col c)
joined-plain g c a e = ap (λ (s : PrintedGrid). s.grid)
    (cond-true (not (is_widening (row_of_cursor g) g.col c)) _ _ (ap not e))

not-more : (p w : Bool) → ((p || w) && not p) ≡ false → (p || w) ≡ p
not-more true w e = refl
not-more false w e = sym (both-true w) ∙ e

appended-narrow : (y : CellView) (c : ℕ) → ((appended y c).wide && not y.wide) ≡ false
    → appended y c ≡ appended_in_place y c
appended-narrow y c =
    let wide : CellView = record {
      text = text_with y.text c;
      wide = y.wide || is_widened_by y.text c;
      continuation = y.continuation;
      attrs = y.attrs;
    } in
    let plain : CellView = record {
      text = text_with y.text c;
      wide = y.wide;
      continuation = y.continuation;
      attrs = y.attrs;
    } in
    (elim (has_room y.text) as (λ b. ((cond b wide y).wide && not y.wide) ≡ false → cond b wide y ≡ cond b plain y) [
      | true ↦ λ e i. record plain { wide = not-more y.wide (is_widened_by y.text c) e i }
      | false ↦ λ e. refl
    ])

pub joined-is : (g : GridView) (x : Extras) (c : ℕ) → IsDrawable g → 0 < g.col
    → is_widening (row_of_cursor g) g.col c ≡ false → term_of_grid (joined g c x.attrs).grid x
    ≡ join c (term_of_grid g x)
unfolding join update
joined-is g x c d h e =
    let v = row_of_cursor g in
    let f = cell_at v.cells in
    let i = base_col f g.col in
    let r = cursor_row g d in
    let n = length v.cells in
    let line = cell_at-whole n (changed f i (appended (f i) c))
    (Bounded-update n f i (appended (f i) c) (Bounded-row v.cells)
    (base_col-within f n g.col h (omega (arith, r.wide, d.col)))) in
    ap (λ (s : GridView). term_of_grid s x) (joined-plain g c x.attrs e)
    ∙ with_line-is g x (joined_row v g.col c) true (here g d) (sym (both-true v.wrapped))
    ∙ ap (λ l. with_line (term_of_grid g x) l true) line
    ∙ ap (λ y. with_line (term_of_grid g x) (update f i y) true) (appended-narrow (f i) c e)

-- ---- one character

pub input-dropped : (z : Size) (c : ℕ) (t : Term) → is_dropped z.cols t.col c ≡ true → input z c t ≡ t
unfolding input
input-dropped z c t e = cond-true (is_dropped z.cols t.col c) t _ e

pub input-joined : (z : Size) (c : ℕ) (t : Term) → is_dropped z.cols t.col c ≡ false → columns_of c ≡ 0
    → input z c t ≡ join c t
unfolding input
input-joined z c t e k =
    cond-false (is_dropped z.cols t.col c) t _ e
    ∙ cond-true (columns_of c == 0) (join c t) _ (eq-eqb (columns_of c) 0 k)

pub input-spaced : (z : Size) (c : ℕ) (t : Term) → is_dropped z.cols t.col c ≡ false → 0 < columns_of c
    → input z c t ≡ print z (cell_of c t.attrs) (fitted z (columns_of c) t)
unfolding input
input-spaced z c t e h =
    cond-false (is_dropped z.cols t.col c) t _ e
    ∙ cond-false (columns_of c == 0) (join c t) _ (ne_eqb (columns_of c) 0 (λ k. absurd (omega (arith, k))))

narrow-here : (g : GridView) (c : ℕ) → columns_of c ≡ 0 → 0 < g.col → widens g c ≡ false
    → is_widening (row_of_cursor g) g.col c ≡ false
narrow-here g c k h e =
    let v = row_of_cursor g in
    sym (ap (λ b. b && (nat_lt 0 g.col && is_widening v g.col c)) (eq-eqb (columns_of c) 0 k)
    ∙ ap (λ b. b && is_widening v g.col c) (lt-ltb 0 g.col h))
    ∙ e

pub IsDrawable-plain : (g : GridView) → IsPlain g → IsDrawable g
IsDrawable-plain g p = record {
  sheet = p.grid.sheet;
  some = p.some;
  few_rows = p.grid.few_rows;
  few_cols = p.grid.few_cols;
  row = p.grid.cursor_row;
  col = p.grid.cursor_col;
  top = p.top;
  bottom = omega (arith, p.bottom, p.grid.some_rows);
}

pub printing-is : EachPrintIsInput
printing-is g x c p narrow =
    let d = IsDrawable-plain g p in
    let z = grid_size g in
    let t = term_of_grid g x in
    ⊎_elim
    (λ (e : is_dropped g.width g.col c ≡ true).
    ap (λ (s : PrintedGrid). term_of_grid s.grid x) (printed-dropped g c x.attrs e) ∙ sym (input-dropped z c t e))
    (λ (e : is_dropped g.width g.col c ≡ false).
    let here = IsDrawn-here g c (columns_of c) e refl in
    ⊎_elim
    (λ (h : 0 < columns_of c).
    ap (λ (s : PrintedGrid). term_of_grid s.grid x) (printed-spaced g c x.attrs e h) ∙ spaced-is g x c d h here.fits
    ∙ sym (input-spaced z c t e h))
    (λ (h : columns_of c ≤ 0).
    let k : columns_of c ≡ 0 = omega (arith, h) in
    let after = here.after k in
    ap (λ (s : PrintedGrid). term_of_grid s.grid x) (printed-joined g c x.attrs e k)
    ∙ joined-is g x c d after (narrow-here g c k after narrow)
    ∙ sym (input-joined z c t e k))
    (cases_lt 0 (columns_of c)))
    (cases_Bool (is_dropped g.width g.col c))
