-- The rows that are shown, as rows to draw on.
use Rattle.std.proofs.Common.{cond, subst}
use Rattle.std.proofs.Common.{◌≡◌, ℕ, ◌+◌, ◌-◌, ◌^◌, ◌<◌, ◌≤◌, Bool, false, ◌&&◌, nat_lt, nat_le, ◌==◌, List, ◌∷◌, []}
use Rattle.std.proofs.Common.{◌++◌, length, min, refl, sym, ap, ◌∙◌, arith, ⊎_elim}
use Rattle.std.proofs.lemmas.Bool.{cond_both, cases_lt, ltb-true, ltb-false, le-ltb, lt-ltb}
use Rattle.std.proofs.lemmas.Bool.Decides.{nat_tests}
use Rattle.std.proofs.lemmas.List.FromFn.{map-range_with_len_more}
use mathlib.Core.Path.{fun_ext}
use Rattle.vt100_forms.specs.Attrs.{IsProper}
use Rattle.vt100_forms.proofs.AttrsLemmas.{default-proper}
use Rattle.vt100_cells.specs.Cell.{CellView, default_cell, empty_cell, is_filled}
use Rattle.vt100_cells.specs.Cells.{cell_at, by_position, last_cell}
use Rattle.vt100_cells.specs.Line.{IsPaired, Bounded, cut, extended}
use Rattle.vt100_cells.proofs.LineLemmas.{wide_within}
use Rattle.vt100_cells.proofs.ListLemmas.{cell_at-by_position, cell_at_past, Bounded-row}
use Rattle.vt100_rows.specs.Row.{RowView, IsRow, truncated, grown, resized_row, with_wrap}
use Rattle.vt100_rows.specs.Sheet.{row_at, rows_by_position, IsRowOf, IsSheet}
use Rattle.vt100_rows.specs.Picture.{lines_of, wraps_of}
use Rattle.vt100_rows.proofs.BackLemmas.{IsRow-resized_default}
use Rattle.vt100_rows.proofs.RowLemmas.{IsRow-with_wrap}
use Rattle.vt100_rows.proofs.WidthLemmas.{length-resized}
use Rattle.vt100_rows.proofs.PictureLemmas.{lines-past, wraps-past}
use Rattle.vt100_rows.proofs.SheetLemmas.{IsSheet-by_position, row_at-by_position, length-rows_by_position}
use Rattle.vt100_rows.proofs.SheetLemmas.{rows_equal}
use Rattle.vt100_core.specs.Grid.{GridView, IsGrid, IsAllocated, visible_at}
use Rattle.vt100_core.specs.Copy.{without_kept, fitted_row, fitted_at, visible_as_drawn}
use Rattle.vt100_core.specs.Picture.{visible_lines, visible_wraps}
use Rattle.vt100_core.proofs.ShowLemmas.{visible-row}
use Rattle.vt100_core.proofs.PictureLemmas.{visible_at-drawn}
use Rattle.vt100_core.proofs.CopyLemmas.{IsGrid-without_kept}

-- ---- the rows of a screen

IsRowOf-fitted : (v : RowView) (width : ℕ) (followed : Bool) → IsRow v → width < 2 ^ 16
    → IsRowOf width (fitted_row v width followed)
IsRowOf-fitted v width followed r h = record {
  row = IsRow-with_wrap (resized_row v width default_cell) (v.wrapped && followed) (IsRow-resized_default v width r h);
  wide = length-resized v width;
}

not-followed : (v : RowView) (width : ℕ) (followed : Bool) → followed ≡ false
    → (fitted_row v width followed).wrapped ≡ false
not-followed v width followed e = grind (arith, e)

IsSheet-fitted : (g : GridView) → IsGrid g → IsSheet g.height g.width (rows_by_position g.height (fitted_at g))
IsSheet-fitted g i =
    IsSheet-by_position g.height g.width g.height (fitted_at g) i.some_rows (λ _. refl)
    (λ r l. IsRowOf-fitted (visible_at g r) g.width (nat_lt (r + 1) g.height) (visible-row g r i) i.few_cols)
    (λ some. not-followed (visible_at g (g.height - 1)) g.width (nat_lt (g.height - 1 + 1) g.height)
    (le-ltb (g.height - 1 + 1) g.height (omega arith)))

-- one row more
pub fitted-more : (g : GridView) (r width height : ℕ) (rows more : List RowView) (v w : RowView)
    → rows ≡ rows_by_position r (fitted_at g) → w ≡ visible_at g r → width ≡ g.width → height ≡ g.height
    → v ≡ fitted_row w width (nat_lt (r + 1) height) → more ≡ rows ++ v ∷ []
    → more ≡ rows_by_position (r + 1) (fitted_at g)
fitted-more g r width height rows more v w e shown wide tall f m =
    let row : v ≡ fitted_at g r = f ∙ (λ j. fitted_row (shown j) (wide j) (nat_lt (r + 1) (tall j))) in
    m ∙ (λ j. e j ++ row j ∷ []) ∙ sym (map-range_with_len_more (fitted_at g) 0 r r (omega arith))

-- all rows
pub rows-fitted : (s : GridView) (n : ℕ) (rows : List RowView) → IsGrid s → IsAllocated s → n ≡ s.height
    → rows ≡ rows_by_position n (fitted_at s) → rows ≡ (visible_as_drawn s).rows
rows-fitted s n rows i some e f =
    f ∙ ap (λ m. rows_by_position m (fitted_at s)) (e ∙ sym (i.sheet.count some))

pub sheet-fitted : (s : GridView) (rows : List RowView) → IsGrid s → IsAllocated s
    → rows ≡ (visible_as_drawn s).rows → IsSheet s.height s.width rows
sheet-fitted s rows i some e =
    rw (e ∙ ap (λ n. rows_by_position n (fitted_at s)) (i.sheet.count some)) (IsSheet-fitted s i)

pub some-fitted : (s : GridView) (rows : List RowView) → IsAllocated s → rows ≡ (visible_as_drawn s).rows
    → 0 < length rows
some-fitted s rows some e = rw e (omega (arith, length-rows_by_position (length s.rows) (fitted_at s)))

pub IsGrid-visible : (g : GridView) → IsGrid g → IsAllocated g → IsGrid (visible_as_drawn g)
IsGrid-visible g i some =
    let copy = IsGrid-without_kept g i some in
    let rows = some-fitted g (visible_as_drawn g).rows some refl in
    record {
      sheet = sheet-fitted g (visible_as_drawn g).rows i some refl;
      some_rows = i.some_rows;
      some_cols = i.some_cols;
      few_rows = i.few_rows;
      few_cols = i.few_cols;
      cursor_row = i.cursor_row;
      cursor_col = i.cursor_col;
      saved_row = i.saved_row;
      saved_col = i.saved_col;
      region = i.region;
      region_end = i.region_end;
      region_lines = i.region_lines;
      kept = copy.kept;
      shown = copy.shown;
      fresh = λ none. absurd (omega (arith, rows));
    }

-- ---- their cells

-- a row that isn't longer ends in no first half of a wide cell
uncut : (width : ℕ) (f : ℕ → CellView) (k : ℕ) → Bounded width f → IsPaired f → k < width → cut width f k ≡ f k
uncut width f k b p l = grind (arith, nat_tests, wide_within width f k b p)

longer : (v : RowView) (width k : ℕ) → length v.cells ≤ width → k < width
    → cell_at (grown v width default_cell).cells k ≡ cell_at v.cells k
longer v width k h l =
    let m = length v.cells in
    let f = extended m (cell_at v.cells) default_cell in
    cond_both (nat_lt m width) (record { cells = by_position width f; wrapped = false }) v
    (λ (w : RowView). cell_at w.cells k ≡ cell_at v.cells k)
    (λ _. cell_at-by_position width f k l
    ∙ cond_both (nat_lt k m) (cell_at v.cells k) default_cell (λ (x : CellView). x ≡ cell_at v.cells k) (λ _. refl)
    (λ e. sym (cell_at_past v.cells k (ltb-false k m e))))
    (λ _. refl)

fitted-cell : (v : RowView) (width k : ℕ) → IsRow v → k < width
    → cell_at (resized_row v width default_cell).cells k ≡ cut width (cell_at v.cells) k
fitted-cell v width k i l =
    let m = length v.cells in
    let f = cell_at v.cells in
    cond_both (nat_lt width m) (truncated v width) (grown v width default_cell)
    (λ (w : RowView). cell_at w.cells k ≡ cut width f k)
    (λ e. let short : min width m ≡ width = omega (arith, ltb-true width m e) in
    ap (λ n. cell_at (by_position n (cut n f)) k) short ∙ cell_at-by_position width (cut width f) k l)
    (λ e. let h = ltb-false width m e in
    longer v width k h l
    ∙ sym (uncut width f k (λ j past. Bounded-row v.cells j (omega arith)) i.paired l))

-- ---- the picture

row-fitted : (g : GridView) (r : ℕ) → IsAllocated g → IsGrid g → r < g.height
    → row_at (visible_as_drawn g).rows r ≡ fitted_at g r
row-fitted g r some i l = row_at-by_position (length g.rows) (fitted_at g) r (omega (arith, i.sheet.count some))

count-fitted : (g : GridView) → IsAllocated g → IsGrid g → length (visible_as_drawn g).rows ≡ g.height
count-fitted g some i = length-rows_by_position (length g.rows) (fitted_at g) ∙ i.sheet.count some

cut-of : (n : ℕ) (f h : ℕ → CellView) (k : ℕ) → (k < n → f k ≡ h k) → cut n f k ≡ cut n h k
cut-of n f h k e = grind (arith, nat_tests)

cut-default : (n k : ℕ) → cut n (λ j. default_cell) k ≡ default_cell
cut-default n k = grind (arith, nat_tests)

cut-past : (n : ℕ) (f : ℕ → CellView) (k : ℕ) → n ≤ k → cut n f k ≡ default_cell
cut-past n f k l = grind (arith, nat_tests)

shown-cell : (g : GridView) (r k : ℕ) → r < g.height → k < g.width
    → visible_lines g r k ≡ cell_at (visible_at g r).cells k
shown-cell g r k l m = rw (lt-ltb r g.height l, lt-ltb k g.width m) refl

no-cell : (g : GridView) (r k : ℕ) → g.height ≤ r → visible_lines g r k ≡ default_cell
no-cell g r k l = rw (le-ltb r g.height l) refl

cell-inside : (g : GridView) (r k : ℕ) → IsGrid g → IsAllocated g → r < g.height → k < g.width
    → lines_of (visible_as_drawn g).rows r k ≡ cut g.width (visible_lines g r) k
cell-inside g r k i some l m =
    let v = visible_at g r in
    ap (λ (w : RowView). cell_at w.cells k) (row-fitted g r some i l) ∙ fitted-cell v g.width k (visible-row g r i) m
    ∙ sym (cut-of g.width (visible_lines g r) (cell_at v.cells) k (λ j. shown-cell g r k l j))

cell-beyond : (g : GridView) (r k : ℕ) → IsGrid g → IsAllocated g → r < g.height → g.width ≤ k
    → lines_of (visible_as_drawn g).rows r k ≡ cut g.width (visible_lines g r) k
cell-beyond g r k i some l m =
    let v = visible_at g r in
    ap (λ (w : RowView). cell_at w.cells k) (row-fitted g r some i l)
    ∙ cell_at_past (resized_row v g.width default_cell).cells k (omega (arith, length-resized v g.width))
    ∙ sym (cut-past g.width (visible_lines g r) k m)

cell-fitted : (g : GridView) (r k : ℕ) → IsGrid g → IsAllocated g
    → lines_of (visible_as_drawn g).rows r k ≡ cut g.width (visible_lines g r) k
cell-fitted g r k i some =
    ⊎_elim
    (λ (l : r < g.height). ⊎_elim (cell-inside g r k i some l) (cell-beyond g r k i some l) (cases_lt k g.width))
    (λ (l : g.height ≤ r). ap (λ f. f k) (lines-past (visible_as_drawn g).rows r (omega (arith, count-fitted g some i)))
    ∙ sym (cut-of g.width (visible_lines g r) (λ j. default_cell) k (λ _. no-cell g r k l) ∙ cut-default g.width k))
    (cases_lt r g.height)

pub lines-fitted : (g : GridView) → IsGrid g → IsAllocated g
    → lines_of (visible_as_drawn g).rows ≡ (λ r. cut g.width (visible_lines g r))
lines-fitted g i some = fun_ext (λ r. fun_ext (λ k. cell-fitted g r k i some))

cut-proper : (n : ℕ) (f : ℕ → CellView) (k : ℕ) → IsProper (f k).attrs → IsProper (cut n f k).attrs
cut-proper n f k p =
    cond_both (nat_le n k) default_cell (cond (((k + 1) == n) && (f k).wide) (empty_cell (f k).attrs) (f k))
    (λ (x : CellView). IsProper x.attrs) (λ _. default-proper)
    (λ _. cond_both (((k + 1) == n) && (f k).wide) (empty_cell (f k).attrs) (f k) (λ (x : CellView). IsProper x.attrs)
    (λ _. p) (λ _. p))

-- the cells have attributes that cells of the grid have, or default ones
pub fitted-proper : (g : GridView) → IsGrid g → IsAllocated g
    → ((r k : ℕ) → IsProper (lines_of g.rows r k).attrs) → ((r k : ℕ) → IsProper (lines_of g.kept.rows r k).attrs)
    → (r k : ℕ) → IsProper (lines_of (visible_as_drawn g).rows r k).attrs
fitted-proper g i some drawn kept r k =
    let inside : IsProper (cell_at (visible_at g r).cells k).attrs = cond_both (nat_lt r g.kept.offset)
    (row_at g.kept.rows (length g.kept.rows - g.kept.offset + r)) (row_at g.rows (r - g.kept.offset))
    (λ (v : RowView). IsProper (cell_at v.cells k).attrs)
    (λ _. kept (length g.kept.rows - g.kept.offset + r) k) (λ _. drawn (r - g.kept.offset) k) in
    subst (λ (x : CellView). IsProper x.attrs) (sym (cell-fitted g r k i some))
    (cut-proper g.width (visible_lines g r) k
    (cond_both (nat_lt r g.height && nat_lt k g.width) (cell_at (visible_at g r).cells k) default_cell
    (λ (x : CellView). IsProper x.attrs) (λ _. inside) (λ _. default-proper)))

-- whether a row that is shown goes on in the next one
abbrev goes-on : GridView → ℕ → Bool
goes-on g r =
    visible_wraps g r && (nat_lt (r + 1) g.height && is_filled (cut g.width (visible_lines g r) (g.width - 1)))

shown-wrap : (g : GridView) (r : ℕ) → r < g.height → visible_wraps g r ≡ (visible_at g r).wrapped
shown-wrap g r l = rw (lt-ltb r g.height l) refl

no-wrap : (g : GridView) (r : ℕ) → g.height ≤ r → goes-on g r ≡ false
no-wrap g r l = rw (le-ltb r g.height l) refl

regrouped : (a b c d e : Bool) → d ≡ a → c ≡ e → ((a && b) && c) ≡ (d && (b && e))
regrouped a b c d e f h = grind (arith, f, h)

wrap-inside : (g : GridView) (r : ℕ) → IsGrid g → IsAllocated g → r < g.height
    → wraps_of (visible_as_drawn g).rows r ≡ goes-on g r
wrap-inside g r i some l =
    let v = visible_at g r in
    let cells = (resized_row v g.width default_cell).cells in
    let last : g.width - 1 < g.width = omega (arith, i.some_cols) in
    ap (λ (w : RowView). w.wrapped) (row-fitted g r some i l)
    ∙ regrouped v.wrapped (nat_lt (r + 1) g.height) (is_filled (cell_at cells (length cells - 1))) (visible_wraps g r)
    (is_filled (cut g.width (visible_lines g r) (g.width - 1))) (shown-wrap g r l)
    (ap (λ n. is_filled (cell_at cells (n - 1))) (length-resized v g.width)
    ∙ ap is_filled (sym (ap (λ (w : RowView). cell_at w.cells (g.width - 1)) (row-fitted g r some i l))
    ∙ cell-inside g r (g.width - 1) i some l last))

wrap-fitted : (g : GridView) (r : ℕ) → IsGrid g → IsAllocated g
    → wraps_of (visible_as_drawn g).rows r ≡ goes-on g r
wrap-fitted g r i some =
    ⊎_elim (wrap-inside g r i some)
    (λ (l : g.height ≤ r). wraps-past (visible_as_drawn g).rows r (omega (arith, count-fitted g some i))
    ∙ sym (no-wrap g r l))
    (cases_lt r g.height)

pub wraps-fitted : (g : GridView) → IsGrid g → IsAllocated g → wraps_of (visible_as_drawn g).rows ≡ (λ r. goes-on g r)
wraps-fitted g i some = fun_ext (λ r. wrap-fitted g r i some)

-- ---- where no kept row is shown

resized-same : (v : RowView) (width : ℕ) → length v.cells ≡ width → resized_row v width default_cell ≡ v
resized-same v width e = grind (arith, nat_tests)

flag-same : (v : RowView) (followed : Bool) → IsRow v → (followed ≡ false → v.wrapped ≡ false)
    → ((v.wrapped && followed) && is_filled (last_cell v.cells)) ≡ v.wrapped
flag-same v followed i last = grind (arith, i.filled)

wrap-same : (v : RowView) (followed : Bool) → IsRow v → (followed ≡ false → v.wrapped ≡ false)
    → with_wrap v (v.wrapped && followed) ≡ v
wrap-same v followed i last =
    let flag : ((v.wrapped && followed) && is_filled (last_cell v.cells)) ≡ v.wrapped = flag-same v followed i last in
    λ j. record { cells = v.cells; wrapped = flag j }

fitted-same : (g : GridView) (r : ℕ) → IsGrid g → IsAllocated g → g.kept.offset ≡ 0 → r < g.height
    → fitted_at g r ≡ row_at g.rows r
fitted-same g r i some none l =
    let v = row_at g.rows r in
    let followed = nat_lt (r + 1) g.height in
    let row = i.sheet.each r (omega (arith, i.sheet.count some)) in
    ap (λ (w : RowView). fitted_row w g.width followed) (visible_at-drawn g r none)
    ∙ ap (λ (w : RowView). with_wrap w (v.wrapped && followed)) (resized-same v g.width row.wide)
    ∙ wrap-same v followed row.row
    (λ e. let end : r ≡ g.height - 1 = omega (arith, ltb-false (r + 1) g.height e) in
    ap (λ n. (row_at g.rows n).wrapped) end ∙ i.sheet.last)

-- both copies are one
pub visible-drawn : (g : GridView) → IsGrid g → IsAllocated g → g.kept.offset ≡ 0 → visible_as_drawn g ≡ without_kept g
visible-drawn g i some none =
    let rows : (visible_as_drawn g).rows ≡ g.rows = rows_equal (visible_as_drawn g).rows g.rows
    (length-rows_by_position (length g.rows) (fitted_at g))
    (λ r l. let inside : r < g.height = omega (arith, count-fitted g some i) in
    row-fitted g r some i inside ∙ fitted-same g r i some none inside) in
    λ j. record (without_kept g) { rows = rows j }
