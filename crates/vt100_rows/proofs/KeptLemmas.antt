-- Rows that are kept.
use Rattle.std.proofs.Common.{◌≡◌, ℕ, ◌+◌, ◌^◌, ◌<◌, ◌≤◌, ◌==◌, false, List, [], ◌∷◌, ◌++◌, slice_range}
use Rattle.std.proofs.Common.{append_assoc, length, set, map, refl, sym, ap, ◌∙◌, arith, length-append, length-set}
use Rattle.std.proofs.Common.{nat_lt, ⊎_elim}
use Rattle.std.proofs.lemmas.Bool.{cases_lt, cond_both, ltb-false}
use Rattle.std.proofs.lemmas.Bool.Decides.{nat_tests}
use Rattle.std.proofs.lemmas.List.{get_or_push, map-append}
use Rattle.std.proofs.Math.ListN.{get_or-append}
use Rattle.std.proofs.lemmas.List.Edits.{between_more}
use Rattle.vt100_cells.specs.Cell.{default_cell}
use Rattle.vt100_cells.specs.Line.{extended}
use Rattle.vt100_cells.specs.Cells.{cell_at, by_position}
use Rattle.vt100_rows.specs.Row.{RowView, IsRow, blank_row, grown, trimmed}
use Rattle.vt100_forms.specs.Attrs.{default_attrs}
use Rattle.vt100_rows.proofs.RowLemmas.{IsRow-grown}
use Rattle.vt100_cells.proofs.CellLemmas.{IsCell-empty}
use Rattle.vt100_cells.proofs.ListLemmas.{length-by_position}
use Rattle.vt100_rows.specs.Sheet.{row_at, changed_between}
use Rattle.vt100_rows.proofs.SheetLemmas.{row_at-set}

pub IsRow-set : (rows : List RowView) (r : ℕ) (v : RowView) → ((k : ℕ) → k < length rows → IsRow (row_at rows k))
    → IsRow v → r < length rows → (k : ℕ) → k < length (set rows r v) → IsRow (row_at (set rows r v) k)
IsRow-set rows r v each row h k l = rw (row_at-set rows r v k h)
    (cond_both (k == r) v (row_at rows k) IsRow (λ _. row) (λ _. each k (omega (arith, length-set rows r v))))

pub IsRow-push : (rows : List RowView) (v : RowView) → ((k : ℕ) → k < length rows → IsRow (row_at rows k)) → IsRow v
    → (k : ℕ) → k < length (rows ++ v ∷ []) → IsRow (row_at (rows ++ v ∷ []) k)
IsRow-push rows v each row k l =
    let n : length (rows ++ v ∷ []) ≡ length rows + 1 = length-append rows (v ∷ []) in
    ⊎_elim (λ (h : k < length rows). rw (get_or-append rows (v ∷ []) (blank_row 0) k h) (each k h))
    (λ (h : length rows ≤ k). let e : length rows ≡ k = omega arith in rw (get_or_push rows v (blank_row 0) k e) row)
    (cases_lt k (length rows))

pub not_yet : (f : RowView → RowView) (old : List RowView) (first r : ℕ)
    → changed_between f old first r r ≡ row_at old r
not_yet f old first r = grind (arith, nat_tests)

pub keeps-more : (f : RowView → RowView) (old rows kept : List RowView) (first r : ℕ) (v w : RowView) → first ≤ r
    → r < length old → ((k : ℕ) → row_at rows k ≡ changed_between f old first r k)
    → v ≡ row_at rows r → w ≡ trimmed v → (kept ++ map trimmed (slice_range old first r)) ++ w ∷ [] ≡ kept
    ++ map trimmed (slice_range old first (r + 1))
keeps-more f old rows kept first r v w h l e ev ew =
    append_assoc kept (map trimmed (slice_range old first r)) (w ∷ [])
    ∙ ap (λ (x : RowView). kept ++ (map trimmed (slice_range old first r) ++ x ∷ [])) (ew
    ∙ ap trimmed (ev ∙ e r ∙ not_yet f old first r))
    ∙ ap (λ (xs : List RowView). kept ++ xs) (sym (map-append trimmed (slice_range old first r) (row_at old r ∷ []))
    ∙ ap (λ (xs : List RowView). map trimmed xs) (sym (between_more old first r (blank_row 0) h l)))

pub IsRow-grown_default : (v : RowView) (width : ℕ) → IsRow v → width < 2 ^ 16 → IsRow (grown v width default_cell)
IsRow-grown_default v width r h = IsRow-grown v width default_cell r (IsCell-empty default_attrs) refl refl h

pub wide_along : (v w : RowView) (width : ℕ) → v ≡ w → width ≤ length w.cells → width ≤ length v.cells
wide_along v w width e h = rw e h

pub grown-longer : (v : RowView) (width : ℕ) → width ≤ length v.cells → grown v width default_cell ≡ v
grown-longer v width l = grind (arith, nat_tests)

pub grown-wide : (v : RowView) (width : ℕ) → width ≤ length (grown v width default_cell).cells
grown-wide v width =
    let more = extended (length v.cells) (cell_at v.cells) default_cell in
    cond_both (nat_lt (length v.cells) width) (record { cells = by_position width more; wrapped = false }) v
    (λ (x : RowView). width ≤ length x.cells) (λ _. omega (arith, length-by_position width more))
    (ltb-false (length v.cells) width)
