-- Default cells at the end of a list.
use Rattle.std.proofs.Common.{◌≡◌, ℕ, zero, suc, ◌-◌, ◌<◌, ◌≤◌, ◌==◌, Bool, true, false, cond, not, ◌&&◌, List, [], ◌∷◌}
use Rattle.std.proofs.Common.{◌++◌, length, take, sym, refl, ap, ◌∙◌, arith, ⊎_elim, length-take, length-take-le}
use Rattle.std.proofs.Math.Seq.{take-suc}
use Rattle.std.proofs.lemmas.Bool.{cases_lt, false≢true, and_parts, cond_both, eqb-true}
use Rattle.std.proofs.lemmas.Bool.Decides.{nat_tests}
use Rattle.std.proofs.lemmas.List.{get_or-take}
use Rattle.vt100_cells.specs.Cell.{CellView, default_cell, is_default, is_filled}
use Rattle.vt100_cells.specs.CellEq.{cell_eq-true}
use Rattle.vt100_cells.specs.Cells.{cell_at, last_cell, trimmed_len}
use Rattle.vt100_cells.proofs.ListLemmas.{cell_at_past}

trimmed_len-snoc_default : (xs : List CellView) (x : CellView) → is_default x ≡ true
    → trimmed_len (xs ++ x ∷ []) ≡ trimmed_len xs
trimmed_len-snoc_default [] x d = rw d refl
trimmed_len-snoc_default (y ∷ ys) x d = ap (λ n. cond ((n == 0) && is_default y) 0 (suc n))
    (trimmed_len-snoc_default ys x d)

trimmed_len-snoc : (xs : List CellView) (x : CellView) → is_default x ≡ false
    → trimmed_len (xs ++ x ∷ []) ≡ suc (length xs)
trimmed_len-snoc [] x d = rw d refl
trimmed_len-snoc (y ∷ ys) x d =
    let some : (suc (length ys) == 0) ≡ false = grind (arith, nat_tests) in
    ap (λ n. cond ((n == 0) && is_default y) 0 (suc n)) (trimmed_len-snoc ys x d)
    ∙ ap (λ b. cond (b && is_default y) 0 (suc (suc (length ys)))) some

-- one default cell fewer
pub trimmed_len-step : (xs : List CellView) (m n : ℕ) → n ≡ suc m → n ≤ length xs → is_default (cell_at xs m) ≡ true
    → trimmed_len (take n xs) ≡ trimmed_len (take m xs)
trimmed_len-step xs m n e l d =
    ap (λ j. trimmed_len (take j xs)) e ∙ ap trimmed_len (take-suc xs m default_cell (omega arith))
    ∙ trimmed_len-snoc_default (take m xs) (cell_at xs m) d

-- the last cell that is kept
pub trimmed_len-stop : (xs : List CellView) (m n : ℕ) → n ≡ suc m → n ≤ length xs → is_default (cell_at xs m) ≡ false
    → trimmed_len (take n xs) ≡ n
trimmed_len-stop xs m n e l d =
    ap (λ j. trimmed_len (take j xs)) e ∙ ap trimmed_len (take-suc xs m default_cell (omega arith))
    ∙ trimmed_len-snoc (take m xs) (cell_at xs m) d
    ∙ ap suc (length-take-le m xs (omega arith)) ∙ sym e

-- ---- past the trimmed cells there are default ones

all_default : (x : CellView) (xs : List CellView) (k : ℕ) → x ≡ default_cell → ((j : ℕ) → cell_at xs j ≡ default_cell)
    → cell_at (x ∷ xs) k ≡ default_cell
all_default x xs zero e past = e
all_default x xs (suc k) e past = past k

later : (x : CellView) (xs : List CellView) (k n : ℕ) → suc n ≤ k → ((j : ℕ) → n ≤ j → cell_at xs j ≡ default_cell)
    → cell_at (x ∷ xs) k ≡ default_cell
later x xs zero n l past = absurd (omega arith)
later x xs (suc k) n l past = past k (omega arith)

pub trimmed_len-past : (xs : List CellView) (k : ℕ) → trimmed_len xs ≤ k → cell_at xs k ≡ default_cell
trimmed_len-past [] k h = refl
trimmed_len-past (x ∷ xs) k h =
    cond_both ((trimmed_len xs == 0) && is_default x) 0 (suc (trimmed_len xs)) (λ n. n ≤ k
    → cell_at (x ∷ xs) k ≡ default_cell)
    (λ e l. let parts = and_parts (trimmed_len xs == 0) (is_default x) e in
    let none : trimmed_len xs ≡ 0 = eqb-true (trimmed_len xs) 0 parts.0 in
    all_default x xs k (cell_eq-true x default_cell parts.1) (λ j. trimmed_len-past xs j (omega arith)))
    (λ e l. later x xs k (trimmed_len xs) l (trimmed_len-past xs))
    h

-- no cell changes
pub cell_at-trimmed : (xs : List CellView) (k : ℕ) → cell_at (take (trimmed_len xs) xs) k ≡ cell_at xs k
cell_at-trimmed xs k =
    ⊎_elim (λ (l : k < trimmed_len xs). get_or-take (trimmed_len xs) xs k default_cell l)
    (λ (l : trimmed_len xs ≤ k). cell_at_past (take (trimmed_len xs) xs) k
    (omega (arith, length-take (trimmed_len xs) xs)) ∙ sym (trimmed_len-past xs k l))
    (cases_lt k (trimmed_len xs))

-- ---- a list without them

pub not-false : (b : Bool) → not b ≡ false → b ≡ true
not-false true e = refl
not-false false e = sym e

trimmed_len-most : (xs : List CellView) → trimmed_len xs ≤ length xs
trimmed_len-most [] = omega arith
trimmed_len-most (x ∷ xs) = let l = trimmed_len-most xs
    in cond_both ((trimmed_len xs == 0) && is_default x) 0 (suc (trimmed_len xs)) (λ n. n ≤ suc (length xs))
    (λ _. omega arith) (λ _. omega arith)

-- where the last cell shows something, all are kept
pub trimmed_len-whole : (xs : List CellView) → is_filled (last_cell xs) ≡ true → trimmed_len xs ≡ length xs
trimmed_len-whole xs h =
    ⊎_elim
    (λ (l : trimmed_len xs < length xs).
    let d = trimmed_len-past xs (length xs - 1) (omega arith) in
    absurd (false≢true (sym (ap is_filled d) ∙ h)))
    (λ (l : length xs ≤ trimmed_len xs). let m = trimmed_len-most xs in omega arith)
    (cases_lt (trimmed_len xs) (length xs))
