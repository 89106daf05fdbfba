-- Another size of the screen.
use Rattle.std.proofs.Common.{◌≡◌, ℕ, ◌+◌, ◌-◌, ◌^◌, ◌<◌, ◌≤◌, ◌==◌, Bool, true, false, cond, ◌&&◌, List, [], ◌++◌}
use Rattle.std.proofs.Common.{length, min, refl, sym, ap, ◌∙◌, arith, length-append, replicate, nat_lt}
use Rattle.std.proofs.Common.{⊎_elim, subst}
use Rattle.std.proofs.lemmas.Bool.{cases_lt, eq-eqb, le-ltb}
use Rattle.std.proofs.lemmas.Bool.Decides.{nat_tests}
use Rattle.vt100_cells.specs.Cell.{default_cell}
use Rattle.vt100_cells.specs.Line.{extended}
use Rattle.vt100_cells.specs.Cells.{cell_at, by_position}
use Rattle.vt100_rows.specs.Row.{RowView, blank_row, truncated, grown, resized_row, unwrapped}
use Rattle.vt100_rows.specs.Sheet.{row_at, rows_by_position, IsSheet, first_rows}
use Rattle.vt100_core.specs.Resize.{whole_screen, up_rows, shortened, with_width, down_rows, rows_back, lengthened}
use Rattle.vt100_core.specs.Resize.{resized}
use Rattle.vt100_rows.proofs.WidthLemmas.{lt_ltb, IsRowOf-resized}
use Rattle.vt100_core.specs.Grid.{KeptPart, IsKept, GridView, IsGrid, IsAllocated}
use Rattle.vt100_core.specs.Scroll.{Scrolled, scrolled_up}
use Rattle.vt100_rows.proofs.SheetLemmas.{length-rows_by_position, IsSheet-by_position}
use Rattle.vt100_rows.proofs.SheetLemmas.{IsRowOf-cond, wrapped-cond, IsSheet-none}
use Rattle.vt100_rows.proofs.MoveLemmas.{IsRowOf-unwrapped}
use Rattle.vt100_core.proofs.GridLemmas.{IsNew-of, no-rows}
use Rattle.vt100_core.proofs.KeepLemmas.{IsShownWide-none}

-- ---- as many rows as there are

-- the height counts only where there are rows
pub IsSheet-height_as : (height other width : ℕ) (rows : List RowView) → (0 < length rows → height ≡ other)
    → IsSheet height width rows → IsSheet other width rows
IsSheet-height_as height other width rows e i =
    ⊎_elim (λ (l : 0 < length rows). subst (λ n. IsSheet n width rows) (e l) i)
    (λ (l : length rows ≤ 0). IsSheet-none other width rows l) (cases_lt 0 (length rows))

-- ---- what is true of a grid stays true

first-last : (rows : List RowView) (height : ℕ) → 0 < height → (first_rows rows height (height - 1)).wrapped ≡ false
first-last rows height h =
    let last : (height - 1 + 1) ≡ height = omega arith in
    rw (eq-eqb (height - 1 + 1) height last)

IsSheet-shortened : (height from width : ℕ) (rows : List RowView) → IsSheet from width rows → 0 < height
    → height < from → IsSheet height width (rows_by_position (min height (length rows)) (first_rows rows height))
IsSheet-shortened height from width rows i some lower =
    IsSheet-by_position height width (min height (length rows)) (first_rows rows height) some
    (λ l. omega (arith, i.count (omega arith)))
    (λ r l. let row = i.each r (omega arith) in
    IsRowOf-cond ((r + 1) == height) width (unwrapped (row_at rows r)) (row_at rows r)
    (λ _. IsRowOf-unwrapped width (row_at rows r) row) (λ _. row))
    (λ _. first-last rows height some)

pub IsGrid-shortened : (g : GridView) (up height : ℕ) → IsGrid g → 0 < height → height < g.height → g.row - up < height
    → g.top ≡ 0 → g.kept.offset ≡ 0 → IsGrid (shortened g up height)
IsGrid-shortened g up height i some lower above top hidden =
    let n = length-rows_by_position (min height (length g.rows)) (first_rows g.rows height) in
    let none : length (rows_by_position (min height (length g.rows)) (first_rows g.rows height)) ≡ 0
    → length g.rows ≡ 0 = λ z. omega (arith, n) in
    record {
      sheet = IsSheet-shortened height g.height g.width g.rows i.sheet some lower;
      some_rows = some;
      some_cols = i.some_cols;
      few_rows = omega (arith, i.few_rows);
      few_cols = i.few_cols;
      cursor_row = above;
      cursor_col = i.cursor_col;
      saved_row = omega arith;
      saved_col = i.saved_col;
      region = omega (arith, top);
      region_end = omega arith;
      region_lines = λ e. omega (arith, top);
      kept = i.kept;
      shown = IsShownWide-none g.kept height g.width hidden;
      fresh = λ z.
          let n = IsNew-of g i (none z) in
          let row : g.row - up ≡ 0 = omega (arith, n.row) in
          let saved : min (g.saved_row - up) (height - 1) ≡ 0 = omega (arith, n.saved_row) in
          λ j. record (i.fresh (none z) j) {
            rows = no-rows (shortened g up height).rows z j;
            height = height;
            row = row j;
            saved_row = saved j;
            bottom = height - 1;
          };
    }

resized-unwrapped : (v : RowView) (width : ℕ) → v.wrapped ≡ false → (resized_row v width default_cell).wrapped ≡ false
resized-unwrapped v width e =
    wrapped-cond (nat_lt width (length v.cells)) (truncated v width) (grown v width default_cell) (λ _. refl)
    (λ _. wrapped-cond (nat_lt (length v.cells) width)
    (record {
      cells = by_position width (extended (length v.cells) (cell_at v.cells) default_cell);
      wrapped = false;
    }) v (λ _. refl) (λ _. e))

IsSheet-resized : (height from width : ℕ) (rows : List RowView) → IsSheet height from rows → 0 < height
    → width < 2 ^ 16 → IsSheet height width (rows_by_position (length rows)
    (λ r. resized_row (row_at rows r) width default_cell))
IsSheet-resized height from width rows i some small =
    IsSheet-by_position height width (length rows) (λ r. resized_row (row_at rows r) width default_cell) some i.count
    (λ r l. IsRowOf-resized from width (row_at rows r) (i.each r l) small)
    (λ _. resized-unwrapped (row_at rows (height - 1)) width i.last)

pub IsGrid-with_width : (g : GridView) (width : ℕ) → IsGrid g → 0 < width → width < 2 ^ 16 → g.kept.offset ≡ 0
    → IsGrid (with_width g width)
IsGrid-with_width g width i some small hidden =
    let n = length-rows_by_position (length g.rows) (λ r. resized_row (row_at g.rows r) width default_cell) in
    record {
      sheet = IsSheet-resized g.height g.width width g.rows i.sheet i.some_rows small;
      some_rows = i.some_rows;
      some_cols = some;
      few_rows = i.few_rows;
      few_cols = small;
      cursor_row = i.cursor_row;
      cursor_col = omega arith;
      saved_row = i.saved_row;
      saved_col = omega arith;
      region = i.region;
      region_end = i.region_end;
      region_lines = i.region_lines;
      kept = i.kept;
      shown = IsShownWide-none g.kept g.height width hidden;
      fresh = λ z.
          let m = IsNew-of g i (sym n ∙ z) in
          let col : min g.col (width - 1) ≡ 0 = omega (arith, m.col) in
          let saved : min g.saved_col (width - 1) ≡ 0 = omega (arith, m.saved_col) in
          λ j. record (i.fresh (sym n ∙ z) j) {
            rows = no-rows (with_width g width).rows z j;
            width = width;
            col = col j;
            saved_col = saved j;
          };
    }

IsKept-hidden : (k : KeptPart) → IsKept k → IsKept (record k { offset = 0 })
IsKept-hidden k i = record {
  each = i.each;
  fits = i.fits;
  counted = i.counted;
  offset = omega arith;
  none = i.none;
  bounded = i.bounded;
}

pub IsGrid-whole_screen : (g : GridView) → IsGrid g → IsGrid (whole_screen g)
IsGrid-whole_screen g i = record {
  sheet = i.sheet;
  some_rows = i.some_rows;
  some_cols = i.some_cols;
  few_rows = i.few_rows;
  few_cols = i.few_cols;
  cursor_row = i.cursor_row;
  cursor_col = i.cursor_col;
  saved_row = i.saved_row;
  saved_col = i.saved_col;
  region = omega arith;
  region_end = omega (arith, i.some_rows);
  region_lines = λ e. omega (arith, i.some_rows);
  kept = IsKept-hidden g.kept i.kept;
  shown = IsShownWide-none (whole_screen g).kept g.height g.width refl;
  fresh = λ z. ap whole_screen (i.fresh z);
}

-- ---- a lower screen

abbrev lower_screen : GridView → ℕ → ℕ → Scrolled
lower_screen g height width =
    let up = up_rows g height in
    let s = scrolled_up (whole_screen g) up in
    record { grid = with_width (shortened s.grid up height) width; sunk = s.sunk }

not-same : (m n : ℕ) (b : Bool) → m < n → ((m == n) && b) ≡ false
not-same m n b h = grind (arith, nat_tests)

resized-lower : (g : GridView) (height width : ℕ) → height < g.height
    → lower_screen g height width ≡ resized g height width
unfolding resized
resized-lower g height width h = rw (not-same height g.height (width == g.width) h, lt_ltb height g.height h)

pub lowers : (g s t u : GridView) (up height width : ℕ) → height < g.height → up ≡ up_rows g height
    → s ≡ (scrolled_up (whole_screen g) up).grid
    → t ≡ shortened s up height → u ≡ with_width t width → u ≡ (resized g height width).grid
lowers g s t u up height width h eup es et eu =
    eu ∙ ap (λ (x : GridView). with_width x width) (et ∙ ap (λ (x : GridView). shortened x up height) es
    ∙ ap (λ n. shortened (scrolled_up (whole_screen g) n).grid n height) eup)
    ∙ ap (λ (x : Scrolled). x.grid) (resized-lower g height width h)

pub lowers-sunk : (g : GridView) (up height width : ℕ) → height < g.height → up ≡ up_rows g height
    → (scrolled_up (whole_screen g) up).sunk ≡ (resized g height width).sunk
lowers-sunk g up height width h eup = ap (λ n. (scrolled_up (whole_screen g) n).sunk) eup
    ∙ ap (λ (x : Scrolled). x.sunk) (resized-lower g height width h)

-- ---- a higher screen

both-none : (b : Bool) (s t : Scrolled) → s.sunk ≡ [] → t.sunk ≡ [] → (cond b s t).sunk ≡ []
both-none true s t e f = e
both-none false s t e f = f

pub raises-sunk : (g : GridView) (height width : ℕ) → g.height ≤ height → [] ≡ (resized g height width).sunk
unfolding resized
raises-sunk g height width h = rw (le-ltb height g.height h) (sym (both-none _ _ _ refl refl))

-- ---- rows stay

pub some-shortened : (g h : GridView) (up height : ℕ) → h ≡ shortened g up height → 0 < height → IsAllocated g
    → IsAllocated h
some-shortened g h up height e some a =
    let n : length h.rows ≡ min height (length g.rows) =
    ap (λ (x : GridView). length x.rows) e
    ∙ length-rows_by_position (min height (length g.rows)) (first_rows g.rows height) in
    omega (arith, n)

more-rows : (rows back below : List RowView) → 0 < length rows
    → 0 < length (cond (length rows == 0) [] (back ++ rows ++ below))
more-rows rows back below h = grind (arith, nat_tests, length-append)

pub some-lengthened : (g h : GridView) (height : ℕ) → h ≡ lengthened g height → IsAllocated g → IsAllocated h
some-lengthened g h height e a = rw e (more-rows g.rows (rows_back g (down_rows g height))
    (replicate (height - g.height - down_rows g height) (blank_row g.width)) a)
