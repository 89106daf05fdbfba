-- What the code does to one cell and to several, column by column.
use Rattle.std.proofs.Common.{◌≡◌, ℕ, zero, suc, ◌+◌, ◌-◌, ◌<◌, ◌≤◌, ◌==◌, true, false, cond, ◌&&◌, List, length, set}
use Rattle.std.proofs.Common.{take, drop, replicate, sym, refl, ap, ◌∙◌, arith, length-append, length-take, length-drop}
use Rattle.std.proofs.Common.{⊎_elim, nat_lt, nat_le}
use Rattle.std.proofs.lemmas.Bool.{cases_lt, ne_eqb}
use Rattle.std.proofs.lemmas.Bool.Decides.{nat_tests}
use Rattle.std.proofs.lemmas.List.{places, length-replicate}
use borrow.Rule.Slice.PartMut.{put_mid}
use Rattle.vt100_forms.specs.declared.attrs.Attrs.{Attrs}
use Rattle.vt100_cells.specs.Cell.{CellView, empty_cell, continuation_cell, cell_of}
use Rattle.vt100_cells.specs.Line.{IsPaired, put, pair_wiped, wiped, left_cleared, right_cleared}
use Rattle.vt100_cells.specs.Cells.{cell_at, by_position}
use Rattle.vt100_cells.proofs.ListLemmas.{cell_at_past, by_position_is, set-by_position, same-by_position}
use Rattle.vt100_cells.proofs.ListLemmas.{by_position-same, sets, reads, reads_len, second_half_within}

-- ---- the halves that are left at either side

pub clears-left : (xs : List CellView) (i : ℕ) → 0 < i → i < length xs → (cell_at xs (i - 1)).wide ≡ true
    → set xs (i - 1) (empty_cell (cell_at xs (i - 1)).attrs) ≡ by_position (length xs) (left_cleared (cell_at xs) i)
clears-left xs i h l w = set-by_position xs (i - 1) (empty_cell (cell_at xs (i - 1)).attrs)
    (left_cleared (cell_at xs) i) (omega arith) (λ k. grind (arith, nat_tests))

left-narrow : (f : ℕ → CellView) (i k : ℕ) → (0 < i → (f (i - 1)).wide ≡ false) → f k ≡ left_cleared f i k
left-narrow f zero k w = grind (arith, nat_tests)
left-narrow f (suc j) k w = let n = w (omega arith) in grind (arith, nat_tests)

pub clears-no_left : (xs : List CellView) (i : ℕ) → (0 < i → (cell_at xs (i - 1)).wide ≡ false)
    → xs ≡ by_position (length xs) (left_cleared (cell_at xs) i)
clears-no_left xs i w = same-by_position xs (left_cleared (cell_at xs) i) (λ k. left-narrow (cell_at xs) i k w)

pub clears-right : (xs : List CellView) (e : ℕ) → e < length xs → (cell_at xs e).continuation ≡ true
    → set xs e (empty_cell (cell_at xs e).attrs) ≡ by_position (length xs) (right_cleared (cell_at xs) e)
clears-right xs e h c = set-by_position xs e (empty_cell (cell_at xs e).attrs) (right_cleared (cell_at xs) e) h
    (λ k. grind (arith, nat_tests))

pub clears-no_right : (xs : List CellView) (e : ℕ) → (cell_at xs e).continuation ≡ false
    → xs ≡ by_position (length xs) (right_cleared (cell_at xs) e)
clears-no_right xs e c = same-by_position xs (right_cleared (cell_at xs) e) (λ k. grind (arith, nat_tests))

-- a second half is within the row
pub continuation_within : (xs : List CellView) (e : ℕ) → (cell_at xs e).continuation ≡ true → e < length xs
continuation_within xs e c =
    ⊎_elim (λ l. l) (λ l. let d = cell_at_past xs e l
    in absurd (let no : true ≡ false = sym c ∙ ap (λ (x : CellView). x.continuation) d in cc)) (cases_lt e (length xs))

-- ---- columns that are erased

filled-read : (zs ws : List CellView) (s n k : ℕ) (x : CellView) → s + n ≤ length zs → k < length zs
    → ws ≡ replicate n x → cell_at (put_mid s n zs ws) k ≡ cond (nat_le s k && nat_lt k (s + n)) x (cell_at zs k)
filled-read zs ws s n k x h l e = grind (arith, places, nat_tests)

-- xs is the row, ys the row without a half on the left, zs without one on the right, ws what is written from s on
pub wipes : (xs ys zs ws : List CellView) (s e m : ℕ) (a : Attrs) (x : CellView) → s < e → e ≤ length xs → m ≡ e - s
    → ys ≡ by_position (length xs) (left_cleared (cell_at xs) s)
    → zs ≡ by_position (length ys) (right_cleared (cell_at ys) e)
    → ws ≡ replicate (length (take m (drop s zs))) x → x ≡ empty_cell a
    → put_mid s m zs ws ≡ by_position (length xs) (wiped (cell_at xs) s e a)
wipes xs ys zs ws s e m a x h l em ey ez ew ex =
    let f = cell_at xs in
    let n = length xs in
    let ly = reads_len n (left_cleared f s) ys ey in
    let lz : length zs ≡ n = reads_len (length ys) (right_cleared (cell_at ys) e) zs ez ∙ ly in
    let prefix : length (take m (drop s zs)) ≡ m = simp (length-take, length-drop) (omega arith) in
    let ew2 : ws ≡ replicate m (empty_cell a) = ew ∙ ap (λ j. replicate j x) prefix ∙ ap (replicate m) ex in
    let lw : length ws ≡ m = ap length ew2 ∙ length-replicate m (empty_cell a) in
    by_position_is n (wiped f s e a) (put_mid s m zs ws) (simp (length-append, length-take, length-drop) (omega arith))
    (λ k q.
    let ry = reads n (left_cleared f s) ys ey in
    let rz : cell_at zs k ≡ right_cleared (left_cleared f s) e k =
    reads (length ys) (right_cleared (cell_at ys) e) zs ez k (omega arith)
    ∙ ap (λ (c : CellView). cond ((k == e) && c.continuation) (empty_cell c.attrs) c) (ry k q) in
    let es : s + m ≡ e = omega arith in
    filled-read zs ws s m k (empty_cell a) (omega arith) (omega arith) ew2
    ∙ ap (λ j. cond (nat_le s k && nat_lt k j) (empty_cell a) (cell_at zs k)) es
    ∙ ap (cond (nat_le s k && nat_lt k e) (empty_cell a)) rz ∙ grind (arith, nat_tests))

-- ---- a cell that is put, column by column

module _ (xs ys : List CellView) (i : ℕ) (x : CellView) (a : Attrs) (cleared : ys
    ≡ by_position (length xs) (left_cleared (cell_at xs) i)) where
  first : set ys i x ≡ by_position (length xs) (λ k. cond (k == i) x (left_cleared (cell_at xs) i k))
  first = sets (length xs) (left_cleared (cell_at xs) i) ys i x cleared

  pub puts-narrow_narrow : x.wide ≡ false → (cell_at xs i).wide ≡ false
      → set ys i x ≡ by_position (length xs) (put (cell_at xs) i x a)
  puts-narrow_narrow w n = first ∙ by_position-same (length xs) _ (put (cell_at xs) i x a)
      (λ k. grind (arith, nat_tests))

  pub puts-narrow_wide : (y : CellView) → y ≡ cell_of 32 a → x.wide ≡ false → (cell_at xs i).wide ≡ true
      → set (set ys i x) (i + 1) y ≡ by_position (length xs) (put (cell_at xs) i x a)
  puts-narrow_wide y ey w n = ap (set (set ys i x) (i + 1)) ey
      ∙ sets (length xs) _ (set ys i x) (i + 1) (cell_of 32 a) first
      ∙ by_position-same (length xs) _ (put (cell_at xs) i x a) (λ k. grind (arith, nat_tests))

  pub puts-wide_narrow : (y : CellView) → y ≡ continuation_cell → x.wide ≡ true → (cell_at xs (i + 1)).wide ≡ false
      → set (set ys i x) (i + 1) y ≡ by_position (length xs) (put (cell_at xs) i x a)
  puts-wide_narrow y ey w n = ap (set (set ys i x) (i + 1)) ey
      ∙ sets (length xs) _ (set ys i x) (i + 1) continuation_cell first
      ∙ by_position-same (length xs) _ (put (cell_at xs) i x a) (λ k. grind (arith, nat_tests))

  pub puts-wide_wide : (y z : CellView) → y ≡ continuation_cell → z ≡ empty_cell a → x.wide ≡ true
      → (cell_at xs (i + 1)).wide ≡ true → set (set (set ys i x) (i + 1) y) (i + 2) z
      ≡ by_position (length xs) (put (cell_at xs) i x a)
  puts-wide_wide y z ey ez w n = ap (set (set (set ys i x) (i + 1) y) (i + 2)) ez
      ∙ sets (length xs) _ (set (set ys i x) (i + 1) y) (i + 2) (empty_cell a) (ap (set (set ys i x) (i + 1)) ey
      ∙ sets (length xs) _ (set ys i x) (i + 1) continuation_cell first)
      ∙ by_position-same (length xs) _ (put (cell_at xs) i x a) (λ k. grind (arith, nat_tests))

-- ---- both halves of a wide cell

-- two adjacent cells are emptied, the left one first
pair-of : (xs ys zs : List CellView) (j i : ℕ) → j + 1 < length xs → ys ≡ set xs j (empty_cell (cell_at xs j).attrs)
    → zs ≡ set ys (j + 1) (empty_cell (cell_at ys (j + 1)).attrs)
    → ((k : ℕ) → cond (k == (j + 1)) (empty_cell (cell_at xs (j + 1)).attrs)
    (cond (k == j) (empty_cell (cell_at xs j).attrs) (cell_at xs k)) ≡ pair_wiped (cell_at xs) i k)
    → zs ≡ by_position (length xs) (pair_wiped (cell_at xs) i)
pair-of xs ys zs j i h ey ez same =
    let f = cell_at xs in
    let n = length xs in
    let y = empty_cell (f j).attrs in
    let g : ℕ → CellView = λ k. cond (k == j) y (f k) in
    let ry = ey ∙ set-by_position xs j y g (omega arith) (λ k. refl) in
    let kept : cell_at ys (j + 1) ≡ f (j + 1) =
    reads n g ys ry (j + 1) h ∙ ap (λ b. cond b y (f (j + 1))) (ne_eqb (j + 1) j (λ e. absurd (omega (arith, e)))) in
    ez ∙ ap (λ (c : CellView). set ys (j + 1) (empty_cell c.attrs)) kept
    ∙ sets n g ys (j + 1) (empty_cell (f (j + 1)).attrs) ry ∙ by_position-same n _ (pair_wiped f i) same

pub clears-wide : (xs ys zs : List CellView) (i : ℕ) → IsPaired (cell_at xs) → (cell_at xs i).wide ≡ true
    → ys ≡ set xs i (empty_cell (cell_at xs i).attrs) → zs ≡ set ys (i + 1) (empty_cell (cell_at ys (i + 1)).attrs)
    → zs ≡ by_position (length xs) (pair_wiped (cell_at xs) i)
clears-wide xs ys zs i p w ey ez = pair-of xs ys zs i i (second_half_within xs i p w) ey ez
    (λ k. grind (arith, nat_tests, p.blank i))

pub clears-continuation : (xs ys zs : List CellView) (i j : ℕ) → IsPaired (cell_at xs) → i ≡ j + 1 → i < length xs
    → (cell_at xs i).continuation ≡ true
    → ys ≡ set xs j (empty_cell (cell_at xs j).attrs) → zs ≡ set ys i (empty_cell (cell_at ys i).attrs)
    → zs ≡ by_position (length xs) (pair_wiped (cell_at xs) i)
clears-continuation xs ys zs i j p e l c ey ez =
    let c2 : (cell_at xs (j + 1)).continuation ≡ true = ap (λ n. (cell_at xs n).continuation) (sym e) ∙ c in
    pair-of xs ys zs j (j + 1) (omega arith) ey (ez
    ∙ ap (λ n. set ys n (empty_cell (cell_at ys n).attrs)) e) (λ k. grind (arith, nat_tests, p.blank (j + 1)))
    ∙ ap (λ n. by_position (length xs) (pair_wiped (cell_at xs) n)) (sym e)

pub clears-neither : (xs : List CellView) (i : ℕ) → (cell_at xs i).wide ≡ false → (cell_at xs i).continuation ≡ false
    → xs ≡ by_position (length xs) (pair_wiped (cell_at xs) i)
clears-neither xs i w c = same-by_position xs (pair_wiped (cell_at xs) i) (λ k. grind (arith, nat_tests))
