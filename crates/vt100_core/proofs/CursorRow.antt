-- The cursor's row, as code reads it and puts it back. The grid s is what the fields g give.
use Rattle.std.proofs.Common.{◌≡◌, ℕ, ◌+◌, ◌≤◌, min, List, length, set, sym, ap, subst, ◌∙◌, arith}
use Rattle.vt100_rows.specs.Row.{RowView}
use Rattle.vt100_rows.specs.Sheet.{row_at}
use Rattle.vt100_core.specs.Grid.{GridView, IsGrid, IsAllocated, row_of_cursor, with_cursor_row}
use Rattle.vt100_core.proofs.EraseLemmas.{cursor_row_of}

pub cursor_row-read : (g s : GridView) (r : ℕ) (v : RowView) → g ≡ s → r ≡ g.row → v ≡ row_at g.rows r → v ≡ row_of_cursor s
cursor_row-read g s r v e er ev =
    let at = er ∙ ap (λ (x : GridView). x.row) e in
    ev ∙ (λ j. row_at (e j).rows (at j))

pub cursor_row-wide : {g s : GridView} {r : ℕ} {v : RowView} → g ≡ s → IsGrid g → IsAllocated s → r ≡ g.row
    → v ≡ row_at g.rows r → length v.cells ≡ g.width
cursor_row-wide {g} {s} {r} {v} e i a er ev =
    ap (λ (x : RowView). length x.cells) ev
    ∙ ap (λ k. length (row_at g.rows k).cells) er
    ∙ (cursor_row_of g i (subst (λ (x : GridView). IsAllocated x) (sym e) a)).wide

-- n columns from the cursor's on are within it
pub cursor_row-fits : {g s : GridView} {r : ℕ} {v : RowView} (n : ℕ) → g ≡ s → IsGrid g → IsAllocated s → r ≡ g.row
    → v ≡ row_at g.rows r → s.col + n ≤ s.width → g.col + n ≤ length v.cells
cursor_row-fits n e i a er ev h =
    let fits = subst (λ (x : GridView). x.col + n ≤ x.width) (sym e) h in
    omega (arith, cursor_row-wide e i a er ev, fits)

pub cursor_row-written : (g s : GridView) (r : ℕ) (v w : RowView) → g ≡ s → r ≡ g.row → v ≡ w
    → record g { rows = set g.rows r v } ≡ with_cursor_row s w
cursor_row-written g s r v w e er ev =
    let at = er ∙ ap (λ (x : GridView). x.row) e in
    λ j. record (e j) { rows = set (e j).rows (at j) (ev j) }

pub cursor_row-among : {g s : GridView} {rows : List RowView} {r : ℕ} → g ≡ s → IsGrid g → IsAllocated s
    → rows ≡ g.rows → r ≡ g.row → length (row_at rows r).cells ≡ g.width
cursor_row-among {g} {s} {rows} {r} e i a same er =
    ap (λ (xs : List RowView). length (row_at xs r).cells) same ∙ ap (λ k. length (row_at g.rows k).cells) er
    ∙ (cursor_row_of g i (subst (λ (x : GridView). IsAllocated x) (sym e) a)).wide

pub cursor_row-changed : {g s : GridView} {r : ℕ} {v w : RowView} (f : RowView → ℕ → RowView) → g ≡ s → IsGrid g
    → IsAllocated s → r ≡ g.row → v ≡ row_at g.rows r → w ≡ f v g.col
    → record g { rows = set g.rows r w } ≡ with_cursor_row s (f (row_of_cursor s) s.col)
cursor_row-changed {g} {s} {r} {v} {w} f e i a er ev ew =
    let row = cursor_row-read g s r v e er ev in
    cursor_row-written g s r w (f (row_of_cursor s) s.col) e er (ew ∙ (λ j. f (row j) (e j).col))

-- `count` columns of it, from the cursor's on
pub cursor_row-ranged : {g s : GridView} {r end : ℕ} {v w : RowView} (count : ℕ) (f : RowView → ℕ → ℕ → RowView) → g ≡ s
    → IsGrid g → IsAllocated s → r ≡ g.row → v ≡ row_at g.rows r → end ≡ min (g.col + count) g.width
    → w ≡ f v g.col end
    → record g { rows = set g.rows r w }
    ≡ with_cursor_row s (f (row_of_cursor s) s.col (min (s.col + count) s.width))
cursor_row-ranged {g} {s} {r} {end} {v} {w} count f e i a er ev ee ew =
    let row = cursor_row-read g s r v e er ev in
    let last = ee ∙ (λ j. min ((e j).col + count) (e j).width) in
    cursor_row-written g s r w (f (row_of_cursor s) s.col (min (s.col + count) s.width)) e er
    (ew ∙ (λ j. f (row j) (e j).col (last j)))
