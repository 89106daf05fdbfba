-- The rows that are shown, one after another.
use Rattle.std.proofs.Common.{◌≡◌, ℕ, suc, ◌+◌, ◌-◌, ◌<◌, ◌≤◌, List, [], ◌∷◌, length, drop, drop-cons, add-one, sym, ap}
use Rattle.std.proofs.Common.{◌∙◌, nat_lt, subst, ⊎_elim, arith}
use Rattle.std.specs.Prelude.{Some, None}
use Rattle.std.proofs.lemmas.Bool.{cond_both, cases_lt}
use Rattle.std.proofs.lemmas.Bool.Decides.{nat_tests}
use Rattle.std.proofs.lemmas.List.{drop_all}
use Rattle.vt100_rows.specs.Row.{RowView, IsRow, blank_row}
use Rattle.vt100_rows.specs.Sheet.{row_at}
use Rattle.vt100_core.specs.Grid.{GridView, IsGrid, visible, visible_at, visible_row_at}
use Rattle.vt100_rows.proofs.RowLemmas.{IsRow-blank}
use Rattle.vt100_rows.proofs.SheetLemmas.{row_at_past, row_at-by_position, length-rows_by_position}

pub shown-some : (g : GridView) (n : ℕ) (v : RowView) → visible_row_at g n ≡ Some v → n < length g.rows
shown-some g n v e = grind (arith, nat_tests)

pub shown-none : (g : GridView) (n : ℕ) → visible_row_at g n ≡ None → length g.rows ≤ n
shown-none g n e = grind (arith, nat_tests)

shown-value : (g : GridView) (n : ℕ) (v : RowView) → visible_row_at g n ≡ Some v → v ≡ visible_at g n
shown-value g n v e = grind (arith, nat_tests)

pub drop-visible : (g : GridView) (n : ℕ) (v : RowView) → visible_row_at g n ≡ Some v
    → drop n (visible g) ≡ v ∷ drop (n + 1) (visible g)
drop-visible g n v e =
    let h = shown-some g n v e in
    rw add-one (drop-cons (visible g) n (blank_row 0)
    (omega (arith, length-rows_by_position (length g.rows) (visible_at g)))
    ∙ ap (λ x. x ∷ drop (suc n) (visible g)) (row_at-by_position (length g.rows) (visible_at g) n h
    ∙ sym (shown-value g n v e)))

pub drop-visible_past : (g : GridView) (n : ℕ) → visible_row_at g n ≡ None → drop n (visible g) ≡ []
drop-visible_past g n e =
    let h = shown-none g n e in
    drop_all n (visible g) (omega (arith, length-rows_by_position (length g.rows) (visible_at g)))

row-of : (rows : List RowView) → ((r : ℕ) → r < length rows → IsRow (row_at rows r)) → (r : ℕ) → IsRow (row_at rows r)
row-of rows h r =
    ⊎_elim (h r) (λ (l : length rows ≤ r). subst IsRow (sym (row_at_past rows r l)) (IsRow-blank 0 (omega arith)))
    (cases_lt r (length rows))

pub visible-row : (g : GridView) (r : ℕ) → IsGrid g → IsRow (visible_at g r)
visible-row g r h =
    cond_both (nat_lt r g.kept.offset) (row_at g.kept.rows (length g.kept.rows - g.kept.offset + r))
    (row_at g.rows (r - g.kept.offset)) IsRow
    (λ _. row-of g.kept.rows h.kept.each (length g.kept.rows - g.kept.offset + r))
    (λ _. row-of g.rows (λ k l. (h.sheet.each k l).row) (r - g.kept.offset))
