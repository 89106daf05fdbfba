-- The lines of changed rows.
use Rattle.std.proofs.Common.{◌≡◌, ℕ, ◌+◌, ◌<◌, ◌≤◌, ◌==◌, Bool, true, false, cond, ◌&&◌, nat_lt, List, length}
use Rattle.std.proofs.Common.{set, sym, refl, ap, ◌∙◌, arith, ⊎_elim}
use Rattle.std.proofs.lemmas.Bool.{cond_both, cases_lt, le-ltb}
use Rattle.std.proofs.lemmas.Bool.Decides.{nat_tests}
use Rattle.std.proofs.lemmas.List.{length-replicate}
use mathlib.Core.Path.{fun_ext}
use Rattle.vt100_cells.specs.Cell.{default_cell}
use Rattle.vt100_cells.specs.Cells.{cell_at}
use Rattle.vt100_cells.proofs.ListLemmas.{cell_at_past, cell_at-replicate}
use Rattle.vt100_rows.specs.Row.{RowView, blank_row}
use Rattle.terminal_model.specs.Position.{update}
use Rattle.vt100_rows.specs.Sheet.{row_at, rows_by_position, moved_up}
use Rattle.vt100_rows.specs.Picture.{lines_of, wraps_of}
use Rattle.vt100_rows.proofs.SheetLemmas.{row_at-set, row_at-by_position, length-rows_by_position, row_at_past}

-- ---- blank rows

pub line-blank : (n : ℕ) → cell_at (blank_row n).cells ≡ (λ k. default_cell)
line-blank n =
    fun_ext (λ k. ⊎_elim (λ l. cell_at-replicate n default_cell k l)
    (λ l. cell_at_past (blank_row n).cells k (omega (arith, length-replicate n default_cell))) (cases_lt k n))

-- past the last row there is nothing
pub lines-past : (rows : List RowView) (r : ℕ) → length rows ≤ r → lines_of rows r ≡ (λ k. default_cell)
lines-past rows r h = ap (λ (v : RowView). cell_at v.cells) (row_at_past rows r h) ∙ line-blank 0

pub wraps-past : (rows : List RowView) (r : ℕ) → length rows ≤ r → wraps_of rows r ≡ false
wraps-past rows r h = ap (λ (v : RowView). v.wrapped) (row_at_past rows r h)

-- ---- another row, seen by g

seen-set : {A : Type 0} (g : RowView → A) (rows : List RowView) (r : ℕ) (v : RowView) → r < length rows
    → (λ k. g (row_at (set rows r v) k)) ≡ update (λ k. g (row_at rows k)) r (g v)
unfolding update
seen-set g rows r v h = fun_ext (λ k. ap g (row_at-set rows r v k h)
    ∙ cond_both (k == r) v (row_at rows k) (λ w. g w ≡ cond (k == r) (g v) (g (row_at rows k)))
    (λ e. rw e refl) (λ e. rw e refl))

pub lines-set : (rows : List RowView) (r : ℕ) (v : RowView) → r < length rows
    → lines_of (set rows r v) ≡ update (lines_of rows) r (cell_at v.cells)
lines-set rows r v h = seen-set (λ w. cell_at w.cells) rows r v h

pub wraps-set : (rows : List RowView) (r : ℕ) (v : RowView) → r < length rows
    → wraps_of (set rows r v) ≡ update (wraps_of rows) r v.wrapped
wraps-set rows r v h = seen-set (λ w. w.wrapped) rows r v h

-- ---- all rows a line up

-- each row is a line further up, and a blank one comes, which g sees as it sees one past the last
seen-up : {A : Type 0} (g : RowView → A) (rows : List RowView) (width r : ℕ) → g (blank_row width) ≡ g (blank_row 0)
    → g (row_at (rows_by_position (length rows) (moved_up rows 0 (length rows) 1 width)) r)
    ≡ cond (nat_lt (r + 1) (length rows)) (g (row_at rows (r + 1))) (g (blank_row 0))
seen-up g rows width r blank =
    let n = length rows in
    let up = moved_up rows 0 n 1 width in
    let next = nat_lt (r + 1) n in
    ⊎_elim
    (λ (l : r < n). let moved : up r ≡ cond next (row_at rows (r + 1)) (blank_row width) = grind (arith, nat_tests) in
    ap g (row_at-by_position n up r l ∙ moved)
    ∙ cond_both next (row_at rows (r + 1)) (blank_row width)
    (λ w. g w ≡ cond next (g (row_at rows (r + 1))) (g (blank_row 0))) (λ e. rw e refl) (λ e. rw e blank))
    (λ (l : n ≤ r). ap g (row_at_past (rows_by_position n up) r (omega (arith, length-rows_by_position n up)))
    ∙ ap (λ b. cond b (g (row_at rows (r + 1))) (g (blank_row 0))) (sym (le-ltb (r + 1) n (omega arith))))
    (cases_lt r n)

pub lines-up : (rows : List RowView) (width : ℕ)
    → lines_of (rows_by_position (length rows) (moved_up rows 0 (length rows) 1 width))
    ≡ (λ r. cond (nat_lt (r + 1) (length rows)) (lines_of rows (r + 1)) (λ k. default_cell))
lines-up rows width = fun_ext (λ r. seen-up (λ w. cell_at w.cells) rows width r (line-blank width ∙ sym (line-blank 0))
    ∙ ap (cond (nat_lt (r + 1) (length rows)) (lines_of rows (r + 1))) (line-blank 0))

cond-and : (b c : Bool) → cond b c false ≡ (b && c)
cond-and true c = refl
cond-and false c = refl

pub wraps-up : (rows : List RowView) (width : ℕ) → wraps_of
    (rows_by_position (length rows) (moved_up rows 0 (length rows) 1 width))
    ≡ (λ r. nat_lt (r + 1) (length rows) && wraps_of rows (r + 1))
wraps-up rows width = fun_ext (λ r. seen-up (λ w. w.wrapped) rows width r refl
    ∙ cond-and (nat_lt (r + 1) (length rows)) (wraps_of rows (r + 1)))
