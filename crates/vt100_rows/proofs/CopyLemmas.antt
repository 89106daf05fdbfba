-- Copies and comparisons of rows up to a column from which on both are blank.
use Rattle.std.proofs.Common.{◌≡◌, ◌∙◌, ℕ, ◌+◌, ◌-◌, ◌<◌, ◌≤◌, true, false, List, ◌++◌, length, take, drop, set, arith}
use Rattle.std.proofs.Common.{sym, ap, ⊎_elim, take-append-drop, length-drop, inl, inr, nat_eq}
use Rattle.std.proofs.lemmas.Bool.{cases_lt, cases_eq, false≢true, eqb-true, eq-eqb}
use Rattle.std.proofs.lemmas.List.{ext_get_or, get_or-drop, get_or-set_same, get_or-set_other}
use Rattle.vt100_cells.specs.Cell.{CellView, default_cell, cell_eq}
use Rattle.vt100_cells.specs.CellEq.{cell_eq-of_same}
use Rattle.vt100_cells.specs.Cells.{cell_at, AreSame}
use Rattle.vt100_rows.specs.Row.{RowView, IsBlankFrom, blank_row}
use Rattle.vt100_rows.specs.Sheet.{row_at}
use Rattle.vt100_rows.proofs.SheetLemmas.{rows_equal}

-- ---- two lines

pub lines-equal : (xs ys : List CellView) (n : ℕ) → length xs ≡ length ys → IsBlankFrom xs n → IsBlankFrom ys n
    → AreSame (cell_at xs) (cell_at ys) 0 n → xs ≡ ys
lines-equal xs ys n l b d same =
    ext_get_or default_cell xs ys l
    (λ k _. ⊎_elim (λ before. same k (omega arith) before) (λ behind. b k behind ∙ sym (d k behind)) (cases_lt k n))

-- from there on they are equal
same-behind : (xs ys : List CellView) (n : ℕ) → length xs ≡ length ys → IsBlankFrom xs n → IsBlankFrom ys n
    → drop n xs ≡ drop n ys
same-behind xs ys n l b d =
    ext_get_or default_cell (drop n xs) (drop n ys) (length-drop n xs ∙ ap (λ m. m - n) l ∙ sym (length-drop n ys))
    (λ k _. get_or-drop n xs k default_cell ∙ b (n + k) (omega arith) ∙ sym (d (n + k) (omega arith))
    ∙ sym (get_or-drop n ys k default_cell))

-- one whose first cells are those of the other
pub prefix-copied : (xs ys : List CellView) (n : ℕ) → length xs ≡ length ys → IsBlankFrom xs n → IsBlankFrom ys n
    → take n ys ++ drop n xs ≡ ys
prefix-copied xs ys n l b d =
    ap (λ (zs : List CellView). take n ys ++ zs) (same-behind xs ys n l b d) ∙ take-append-drop n ys

-- cells that are found to differ
pub lines-differ : (xs ys : List CellView) (k : ℕ) → cell_eq (cell_at xs k) (cell_at ys k) ≡ false → xs ≡ ys → ⊥
lines-differ xs ys k e same =
    false≢true (sym e ∙ cell_eq-of_same (cell_at xs k) (cell_at ys k) (ap (λ (zs : List CellView). cell_at zs k) same))

pub same-row : (v w : RowView) → v.cells ≡ w.cells → v.wrapped ≡ w.wrapped → v ≡ w
same-row v w e f = λ i. record { cells = e i; wrapped = f i }

-- the cells of two rows with one flag have been compared up to there
pub rows-compared : (v w : RowView) (xs ys : List CellView) (n end : ℕ) → xs ≡ v.cells → ys ≡ w.cells
    → length v.cells ≡ length w.cells → IsBlankFrom v.cells end → IsBlankFrom w.cells end → v.wrapped ≡ w.wrapped
    → n ≤ end → AreSame (cell_at xs) (cell_at ys) 0 n
    → (n < end → cell_eq (cell_at xs n) (cell_at ys n) ≡ false)
    → (nat_eq n end ≡ true → v ≡ w) × (v ≡ w → nat_eq n end ≡ true)
rows-compared v w xs ys n end ex ey l b d flags le same differs =
    let left : (k : ℕ) → cell_at xs k ≡ cell_at v.cells k = λ k. ap (λ (zs : List CellView). cell_at zs k) ex in
    let right : (k : ℕ) → cell_at ys k ≡ cell_at w.cells k = λ k. ap (λ (zs : List CellView). cell_at zs k) ey in (
      λ e. let at : n ≡ end = eqb-true n end e in
          same-row v w (lines-equal v.cells w.cells end l b d
          (λ k lo hi. sym (left k) ∙ same k lo (omega arith) ∙ right k)) flags,
      λ e. ⊎_elim
          (λ lt. let unlike : cell_eq (cell_at v.cells n) (cell_at w.cells n) ≡ false = rw (← left n, ← right n)
          (differs lt) in
          absurd (lines-differ v.cells w.cells n unlike (ap (λ (x : RowView). x.cells) e)))
          (λ ge. eq-eqb n end (omega arith)) (cases_lt n end),
    )

-- ---- lists of rows

-- one more row is that of the other list
pub copied-more : (rows others : List RowView) (r : ℕ) (v : RowView) → r < length rows
    → ((k : ℕ) → k < r → row_at rows k ≡ row_at others k) → v ≡ row_at others r
    → (k : ℕ) → k < r + 1 → row_at (set rows r v) k ≡ row_at others k
copied-more rows others r v h same is k lt = elim (cases_eq k r) [
  | inl at ↦ rw at (get_or-set_same rows r v (blank_row 0) h ∙ is)
  | inr ne ↦ get_or-set_other rows r k v (blank_row 0) ne ∙ same k (omega (arith, ne))
]

-- and the rows after it stay
pub others-stay : (rows old : List RowView) (r : ℕ) (v : RowView)
    → ((k : ℕ) → r ≤ k → row_at rows k ≡ row_at old k) → (k : ℕ) → r + 1 ≤ k → row_at (set rows r v) k ≡ row_at old k
others-stay rows old r v same k h =
    get_or-set_other rows r k v (blank_row 0) (omega (arith, h)) ∙ same k (omega (arith, h))

pub all-copied : (rows others : List RowView) (r : ℕ) → length rows ≡ length others → r ≡ length rows
    → ((k : ℕ) → k < r → row_at rows k ≡ row_at others k) → rows ≡ others
all-copied rows others r l e same = rows_equal rows others l (λ k lt. same k (omega (arith, lt, e)))
