-- Erasing, and cells that come in and go.
use Rattle.std.proofs.Common.{◌≡◌, ℕ, ◌+◌, ◌-◌, ◌<◌, ◌≤◌, ◌==◌, Bool, true, false, cond, not, ◌&&◌, length, min, refl}
use Rattle.std.proofs.Common.{ap, ◌∙◌, arith, nat_lt}
use Rattle.std.proofs.lemmas.List.{length-replicate}
use Rattle.vt100_forms.specs.declared.attrs.Attrs.{Attrs}
use Rattle.vt100_cells.specs.Cell.{empty_cell}
use Rattle.vt100_cells.specs.Line.{wiped, wipe_unflags, cut, opened, closed}
use Rattle.vt100_cells.specs.Cells.{cell_at, by_position}
use Rattle.vt100_rows.specs.Row.{RowView, cleared_row, wiped_row, inserted, removed}
use Rattle.vt100_rows.proofs.RowLemmas.{IsRow-cleared, IsRow-wiped, IsRow-inserted, IsRow-removed}
use Rattle.vt100_cells.proofs.ListLemmas.{length-by_position}
use Rattle.vt100_rows.specs.Sheet.{row_at, rows_by_position, IsRowOf}
use Rattle.vt100_core.specs.Grid.{GridView, IsGrid, IsAllocated, with_rows, with_cursor_row, row_of_cursor}
use Rattle.vt100_core.specs.Erase.{all_erased, all_erased_forward, all_erased_backward, columns_to_cursor, row_erased}
use Rattle.vt100_core.specs.Erase.{columns_erased, cells_inserted, cells_deleted}
use Rattle.vt100_rows.specs.Sheet.{erased_forward_at, erased_backward_at}
use Rattle.vt100_rows.proofs.SheetLemmas.{length-rows_by_position, IsSheet-by_position}
use Rattle.vt100_core.proofs.GridLemmas.{IsGrid-rows, IsGrid-with_row}

-- ---- rows stay what they are

pub IsRowOf-cleared : (width : ℕ) (v : RowView) (a : Attrs) → IsRowOf width v → IsRowOf width (cleared_row v a)
IsRowOf-cleared width v a r = record {
  row = IsRow-cleared v a r.row;
  wide = length-replicate (length v.cells) (empty_cell a) ∙ r.wide;
}

pub IsRowOf-wiped : (width : ℕ) (v : RowView) (s e : ℕ) (a : Attrs) → IsRowOf width v → e ≤ width
    → IsRowOf width (wiped_row v s e a)
IsRowOf-wiped width v s e a r h =
    record {
      row = IsRow-wiped v s e a r.row (omega (arith, r.wide));
      wide = length-by_position (length v.cells) (wiped (cell_at v.cells) s e a) ∙ r.wide;
    }

wiped-wrapped : (v : RowView) (s e : ℕ) (a : Attrs) → v.wrapped ≡ false → (wiped_row v s e a).wrapped ≡ false
wiped-wrapped v s e a w = ap (λ b. b && not (wipe_unflags (length v.cells) (cell_at v.cells) s e)) w

length-cond : (b : Bool) (v w : RowView) (n : ℕ) → length v.cells ≡ n → length w.cells ≡ n
    → length (cond b v.cells w.cells) ≡ n
length-cond true v w n p q = p
length-cond false v w n p q = q

IsRowOf-inserted : (width : ℕ) (v : RowView) (i n : ℕ) → IsRowOf width v → IsRowOf width (inserted v i n)
IsRowOf-inserted width v i n r =
    let m = min n (length v.cells - i) in
    let f = cut (length v.cells) (opened (cell_at v.cells) i m) in
    record {
      row = IsRow-inserted v i n r.row;
      wide = length-cond (nat_lt 0 m) (record { cells = by_position (length v.cells) f; wrapped = false }) v width
          (length-by_position (length v.cells) f ∙ r.wide) r.wide;
    }

IsRowOf-removed : (width : ℕ) (v : RowView) (s e : ℕ) → IsRowOf width v → e ≤ width → IsRowOf width (removed v s e)
IsRowOf-removed width v s e r h =
    let f = closed (length v.cells) (cell_at v.cells) s (e - s) in
    record {
      row = IsRow-removed v s e r.row (omega (arith, r.wide));
      wide = length-cond (nat_lt s e) (record { cells = by_position (length v.cells) f; wrapped = false }) v width
          (length-by_position (length v.cells) f ∙ r.wide) r.wide;
    }

-- ---- the cursor's row

pub cursor_row_of : (g : GridView) → IsGrid g → IsAllocated g → IsRowOf g.width (row_of_cursor g)
cursor_row_of g i a = i.sheet.each g.row (omega (arith, i.sheet.count a, i.cursor_row))

pub IsGrid-cursor_row : (g : GridView) (v : RowView) → IsGrid g → IsAllocated g → IsRowOf g.width v
    → ((row_of_cursor g).wrapped ≡ false → v.wrapped ≡ false) → IsGrid (with_cursor_row g v)
IsGrid-cursor_row g v i a row keeps =
    IsGrid-with_row g g.row v i (omega (arith, i.sheet.count a, i.cursor_row)) row
    (λ e. let at : g.row ≡ g.height - 1 = omega arith in keeps (ap (λ k. (row_at g.rows k).wrapped) at ∙ i.sheet.last))

pub IsGrid-row_erased : (g : GridView) (a : Attrs) → IsGrid g → IsAllocated g → IsGrid (row_erased g a)
IsGrid-row_erased g a i l = IsGrid-cursor_row g (cleared_row (row_of_cursor g) a) i l
    (IsRowOf-cleared g.width (row_of_cursor g) a (cursor_row_of g i l)) (λ _. refl)

pub IsGrid-columns_erased : (g : GridView) (s e : ℕ) (a : Attrs) → IsGrid g → IsAllocated g → e ≤ g.width
    → IsGrid (columns_erased g s e a)
IsGrid-columns_erased g s e a i l h =
    IsGrid-cursor_row g (wiped_row (row_of_cursor g) s e a) i l
    (IsRowOf-wiped g.width (row_of_cursor g) s e a (cursor_row_of g i l) h)
    (wiped-wrapped (row_of_cursor g) s e a)

pub IsGrid-cells_inserted : (g : GridView) (n : ℕ) → IsGrid g → IsAllocated g → IsGrid (cells_inserted g n)
IsGrid-cells_inserted g n i l = IsGrid-cursor_row g (inserted (row_of_cursor g) g.col n) i l
    (IsRowOf-inserted g.width (row_of_cursor g) g.col n (cursor_row_of g i l)) (λ _. refl)

pub IsGrid-cells_deleted : (g : GridView) (n : ℕ) → IsGrid g → IsAllocated g → IsGrid (cells_deleted g n)
IsGrid-cells_deleted g n i l =
    IsGrid-cursor_row g (removed (row_of_cursor g) g.col (min (g.col + n) g.width)) i l
    (IsRowOf-removed g.width (row_of_cursor g) g.col (min (g.col + n) g.width) (cursor_row_of g i l) (omega arith))
    (λ _. refl)

-- ---- several rows

IsGrid-positions : (g : GridView) (f : ℕ → RowView) → IsGrid g → IsAllocated g
    → ((r : ℕ) → r < length g.rows → IsRowOf g.width (f r)) → (f (g.height - 1)).wrapped ≡ false
    → IsGrid (with_rows g f)
IsGrid-positions g f i l each last =
    IsGrid-rows g (rows_by_position (length g.rows) f) i (length-rows_by_position (length g.rows) f)
    (IsSheet-by_position g.height g.width (length g.rows) f i.some_rows i.sheet.count each (λ _. last))

pub IsGrid-all_erased : (g : GridView) (a : Attrs) → IsGrid g → IsAllocated g → IsGrid (all_erased g a)
IsGrid-all_erased g a i l = IsGrid-positions g (λ r. cleared_row (row_at g.rows r) a) i l
    (λ r k. IsRowOf-cleared g.width (row_at g.rows r) a (i.sheet.each r k)) refl

-- a row above or below the cursor's is empty, and the cursor's in part
erased-each : (far here : Bool) (width : ℕ) (v : RowView) (s e : ℕ) (a : Attrs) → IsRowOf width v → e ≤ width
    → IsRowOf width (cond far (cleared_row v a) (cond here (wiped_row v s e a) v))
erased-each true here width v s e a r h = IsRowOf-cleared width v a r
erased-each false true width v s e a r h = IsRowOf-wiped width v s e a r h
erased-each false false width v s e a r h = r

erased-last : (far here : Bool) (v : RowView) (s e : ℕ) (a : Attrs) → v.wrapped ≡ false
    → (cond far (cleared_row v a) (cond here (wiped_row v s e a) v)).wrapped ≡ false
erased-last true here v s e a w = refl
erased-last false true v s e a w = wiped-wrapped v s e a w
erased-last false false v s e a w = w

pub IsGrid-all_erased_forward : (g : GridView) (a : Attrs) → IsGrid g → IsAllocated g → IsGrid (all_erased_forward g a)
IsGrid-all_erased_forward g a i l =
    IsGrid-positions g (erased_forward_at g.rows g.row g.col g.width a) i l
    (λ r k. erased-each (nat_lt g.row r) (r == g.row) g.width (row_at g.rows r) g.col g.width a (i.sheet.each r k)
    (omega arith))
    (erased-last (nat_lt g.row (g.height - 1)) ((g.height - 1) == g.row) (row_at g.rows (g.height - 1)) g.col g.width a
    i.sheet.last)

pub IsGrid-all_erased_backward : (g : GridView) (a : Attrs) → IsGrid g → IsAllocated g
    → IsGrid (all_erased_backward g a)
IsGrid-all_erased_backward g a i l =
    let e = columns_to_cursor g in
    IsGrid-positions g (erased_backward_at g.rows g.row e a) i l
    (λ r k. erased-each (nat_lt r g.row) (r == g.row) g.width (row_at g.rows r) 0 e a (i.sheet.each r k)
    (omega (arith, i.some_cols)))
    (erased-last (nat_lt (g.height - 1) g.row) ((g.height - 1) == g.row) (row_at g.rows (g.height - 1)) 0 e a
    i.sheet.last)

pub columns_to_cursor-fit : (g : GridView) → IsGrid g → columns_to_cursor g ≤ g.width
columns_to_cursor-fit g i = omega (arith, i.some_cols)
