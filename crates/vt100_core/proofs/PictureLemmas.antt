-- What a grid shows, by position.
use Rattle.std.proofs.Common.{◌≡◌, ℕ, ◌-◌, ◌<◌, ◌≤◌, true, false, nat_lt, List, length}
use Rattle.std.proofs.Common.{sym, refl, ap, ◌∙◌, arith, ⊎_elim}
use Rattle.std.proofs.lemmas.Bool.{false≢true, cases_lt, le-ltb, lt-ltb}
use mathlib.Core.Path.{fun_ext}
use Rattle.vt100_cells.specs.Cell.{default_cell, is_filled}
use Rattle.vt100_cells.specs.Cells.{cell_at}
use Rattle.vt100_cells.specs.Line.{IsPaired, Bounded}
use Rattle.vt100_cells.proofs.ListLemmas.{cell_at_past}
use Rattle.terminal_model.specs.Term.{IsTerm}
use Rattle.vt100_rows.specs.Row.{RowView}
use Rattle.vt100_rows.specs.Sheet.{row_at, IsSheet}
use Rattle.vt100_rows.specs.Picture.{lines_of, wraps_of}
use Rattle.vt100_rows.proofs.PictureLemmas.{lines-past, wraps-past}
use Rattle.vt100_core.specs.Grid.{GridView, IsGrid, IsAllocated, visible_at}
use Rattle.vt100_core.specs.Picture.{grid_size, visible_lines, visible_wraps, Extras, term_of_grid}

-- ---- where no kept row is shown

pub visible_at-drawn : (g : GridView) (r : ℕ) → g.kept.offset ≡ 0 → visible_at g r ≡ row_at g.rows r
visible_at-drawn g r e =
    let none : nat_lt r g.kept.offset ≡ false = le-ltb r g.kept.offset (omega (arith, e)) in
    let same : r - g.kept.offset ≡ r = omega (arith, e) in
    rw none (ap (row_at g.rows) same)

-- ---- a grid's rows are a terminal's lines

IsPaired-default : IsPaired (λ k. default_cell)
IsPaired-default = record { first = refl; next = λ k. refl; blank = λ k e. absurd (false≢true e) }

pub lines-paired : (height width : ℕ) (rows : List RowView) (r : ℕ) → IsSheet height width rows
    → IsPaired (lines_of rows r)
lines-paired height width rows r h =
    ⊎_elim (λ l. (h.each r l).row.paired) (λ l. rw (lines-past rows r l) IsPaired-default) (cases_lt r (length rows))

pub lines-bounded : (height width : ℕ) (rows : List RowView) (r : ℕ) → IsSheet height width rows
    → Bounded width (lines_of rows r)
lines-bounded height width rows r h k m =
    ⊎_elim (λ l. cell_at_past (row_at rows r).cells k (omega (arith, (h.each r l).wide)))
    (λ l. ap (λ f. f k) (lines-past rows r l)) (cases_lt r (length rows))

wraps-filled : (height width : ℕ) (rows : List RowView) (r : ℕ) → IsSheet height width rows → wraps_of rows r ≡ true
    → is_filled (lines_of rows r (width - 1)) ≡ true
wraps-filled height width rows r h w =
    ⊎_elim
    (λ (l : r < length rows). let one = h.each r l
    in ap (λ n. is_filled (lines_of rows r (n - 1))) (sym one.wide) ∙ one.row.filled w)
    (λ (l : length rows ≤ r). absurd (false≢true (sym (wraps-past rows r l) ∙ w)))
    (cases_lt r (length rows))

-- a grid has its rows, or none yet
pub few-rows : (g : GridView) → IsGrid g → length g.rows ≤ g.height
few-rows g h =
    ⊎_elim (λ (l : 0 < length g.rows). omega (arith, h.sheet.count l)) (λ (l : length g.rows ≤ 0). omega (arith, l))
    (cases_lt 0 (length g.rows))

pub IsTerm-grid : (g : GridView) (x : Extras) → IsGrid g → IsTerm (grid_size g) (term_of_grid g x)
IsTerm-grid g x h =
    let few = few-rows g h in
    record {
      some_row = h.some_rows;
      some_col = h.some_cols;
      paired = λ r. lines-paired g.height g.width g.rows r h.sheet;
      beyond = λ r. lines-bounded g.height g.width g.rows r h.sheet;
      below = λ r k l. ap (λ f. f k) (lines-past g.rows r (omega arith));
      below_flag = λ r l. wraps-past g.rows r (omega arith);
      filled = λ r w. wraps-filled g.height g.width g.rows r h.sheet w;
      last = h.sheet.last;
      in_rows = h.cursor_row;
      in_cols = h.cursor_col;
      saved_in_rows = h.saved_row;
      saved_in_cols = h.saved_col;
    }

shown_line-drawn : (g : GridView) (r k : ℕ) → IsGrid g → IsAllocated g → g.kept.offset ≡ 0
    → visible_lines g r k ≡ lines_of g.rows r k
shown_line-drawn g r k h some e =
    let count = h.sheet.count some in
    ⊎_elim
    (λ (l : r < g.height). ⊎_elim
    (λ (m : k < g.width). rw (
      lt-ltb r g.height l,
      lt-ltb k g.width m,
    ) (ap (λ (v : RowView). cell_at v.cells k) (visible_at-drawn g r e)))
    (λ (m : g.width ≤ k). rw (
      lt-ltb r g.height l,
      le-ltb k g.width m,
    ) (sym (lines-bounded g.height g.width g.rows r h.sheet k m)))
    (cases_lt k g.width))
    (λ (l : g.height ≤ r). rw (le-ltb r g.height l) (sym (ap (λ f. f k) (lines-past g.rows r (omega arith)))))
    (cases_lt r g.height)

-- at offset 0 a grid shows its rows
pub visible_lines-drawn : (g : GridView) → IsGrid g → IsAllocated g → g.kept.offset ≡ 0 → visible_lines g
    ≡ lines_of g.rows
visible_lines-drawn g h some e = fun_ext (λ r. fun_ext (λ k. shown_line-drawn g r k h some e))

shown_wrap-drawn : (g : GridView) (r : ℕ) → IsGrid g → IsAllocated g → g.kept.offset ≡ 0
    → visible_wraps g r ≡ wraps_of g.rows r
shown_wrap-drawn g r h some e =
    let count = h.sheet.count some in
    ⊎_elim (λ (l : r < g.height). rw (lt-ltb r g.height l) (ap (λ (v : RowView). v.wrapped) (visible_at-drawn g r e)))
    (λ (l : g.height ≤ r). rw (le-ltb r g.height l) (sym (wraps-past g.rows r (omega arith)))) (cases_lt r g.height)

pub visible_wraps-drawn : (g : GridView) → IsGrid g → IsAllocated g → g.kept.offset ≡ 0 → visible_wraps g
    ≡ wraps_of g.rows
visible_wraps-drawn g h some e = fun_ext (λ r. shown_wrap-drawn g r h some e)
