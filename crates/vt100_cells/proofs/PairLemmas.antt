-- A run of wide characters, put on a line.
use Rattle.std.proofs.Common.{◌≡◌, ℕ, zero, suc, ◌+◌, ◌-◌, ◌*◌, ◌<◌, ◌≤◌, ◌==◌, Bool, true, false, cond, not, ◌&&◌}
use Rattle.std.proofs.Common.{List, [], ◌∷◌, length, set, slice_index, sym, refl, ap, ◌∙◌, arith, ⊎_elim, nat_lt}
use Rattle.std.proofs.Common.{nat_le, length-set}
use Rattle.std.proofs.lemmas.Bool.{cases_lt, cases_order}
use Rattle.std.proofs.lemmas.Bool.Decides.{nat_tests}
use borrow.Rule.Slice.PartMut.{put_mid}
use Rattle.vt100_forms.specs.declared.attrs.Attrs.{Attrs}
use Rattle.vt100_cells.specs.Cell.{CellView, cell_of, empty_cell, continuation_cell}
use Rattle.vt100_cells.specs.Cells.{cell_at, by_position}
use Rattle.vt100_cells.specs.Line.{IsPaired, put, put_unflags, left_cleared, pairs_of, printed_pairs, pairs_unflag}
use Rattle.vt100_cells.proofs.ListLemmas.{by_position_is, same-by_position, cell_at-set_within}
use Rattle.vt100_cells.proofs.RunLemmas.{right_made, writes-part}

-- ---- the cells of such characters

pub length-pairs_of : (xs : List ℕ) (a : Attrs) → length (pairs_of xs a) ≡ 2 * length xs
length-pairs_of [] a = refl
length-pairs_of (x ∷ xs) a = let n = length-pairs_of xs a in omega (arith, n)

pair-later : (x : ℕ) (xs : List ℕ) (a : Attrs) (j k : ℕ) → j ≡ suc (suc k)
    → cell_at (pairs_of (x ∷ xs) a) j ≡ cell_at (pairs_of xs a) k
pair-later x xs a j k e = ap (cell_at (pairs_of (x ∷ xs) a)) e

pairs-at : (xs : List ℕ) (j : ℕ) (a : Attrs) → j < length xs
    → (cell_at (pairs_of xs a) (2 * j) ≡ cell_of (slice_index xs j) a)
    × (cell_at (pairs_of xs a) (2 * j + 1) ≡ continuation_cell)
pairs-at [] j a h = absurd (omega arith)
pairs-at (x ∷ xs) zero a h = (refl, refl)
pairs-at (x ∷ xs) (suc j) a h = let rest = pairs-at xs j a (omega arith) in (
  pair-later x xs a (2 * suc j) (2 * j) (omega arith) ∙ rest.0,
  pair-later x xs a (2 * suc j + 1) (2 * j + 1) (omega arith) ∙ rest.1,
)

-- ---- two cells are written after those that are right

two-written : (f g : ℕ → CellView) (i k : ℕ) (y r s : CellView) → k < i + 2 → ((j : ℕ) → j < i → f j ≡ g j)
    → y ≡ g i → r ≡ g (i + 1) → cond (k == (i + 1)) r (cond (k == i) y (cond (k == i) s (f k))) ≡ g k
two-written f g i k y r s l h ey er = grind (arith, nat_tests, h k)

pub writes-pair : (cells : List CellView) (text : List ℕ) (i j x : ℕ) (s y r : CellView) (a : Attrs) → i ≡ 2 * j
    → j < length text → length cells ≡ 2 * length text → x ≡ slice_index text j → y ≡ cell_of x a
    → r ≡ continuation_cell → ((k : ℕ) → k < i → cell_at cells k ≡ cell_at (pairs_of text a) k)
    → (k : ℕ) → k < i + 2 → cell_at (set (set (set cells i s) i y) (i + 1) r) k ≡ cell_at (pairs_of text a) k
writes-pair cells text i j x s y r a ei h n ex ey er w k l =
    let zs = set (set cells i s) i y in
    let n1 = length-set cells i s in
    let n2 = length-set (set cells i s) i y in
    let even : y ≡ cell_at (pairs_of text a) i = ey ∙ ap (λ c. cell_of c a) ex ∙ sym ((pairs-at text j a h).0)
    ∙ ap (cell_at (pairs_of text a)) (sym ei) in
    let odd : r ≡ cell_at (pairs_of text a) (i + 1) = er ∙ sym ((pairs-at text j a h).1)
    ∙ ap (λ m. cell_at (pairs_of text a) (m + 1)) (sym ei) in
    cell_at-set_within zs (i + 1) r k (omega (arith, n1, n2))
    ∙ ap (cond (k == (i + 1)) r) (cell_at-set_within (set cells i s) i y k (omega (arith, n1))
    ∙ ap (cond (k == i) y) (cell_at-set_within cells i s k (omega arith)))
    ∙ two-written (cell_at cells) (cell_at (pairs_of text a)) i k y r s l w even odd

pub are-pairs : (cells : List CellView) (text : List ℕ) (a : Attrs) → length cells ≡ 2 * length text
    → ((k : ℕ) → k < 2 * length text → cell_at cells k ≡ cell_at (pairs_of text a) k) → cells ≡ pairs_of text a
are-pairs cells text a n w =
    let ps = pairs_of text a in
    let m = length-pairs_of text a in
    by_position_is (length ps) (cell_at ps) cells (n ∙ sym m) (λ k h. w k (omega (arith, m)))
    ∙ sym (same-by_position ps (cell_at ps) (λ k. refl))

-- ---- what the code writes, column by column

pub writes-pairs : (xs ys zs ws : List CellView) (i e m : ℕ) (ts : List ℕ) (a b : Attrs) → 0 < length ts
    → e ≡ i + 2 * length ts → e ≤ length xs → m ≡ e - i → b ≡ a
    → ys ≡ by_position (length xs) (left_cleared (cell_at xs) i)
    → zs ≡ by_position (length ys) (right_made (cell_at ys) e (empty_cell a))
    → ws ≡ pairs_of ts b
    → put_mid i m zs ws ≡ by_position (length xs) (printed_pairs (cell_at xs) i ts a)
writes-pairs xs ys zs ws i e m ts a b some ee within em eb ey ez ew =
    let f = cell_at xs in
    let n = 2 * length ts in
    let all : m ≡ n = omega arith in
    let ew2 : ws ≡ pairs_of ts a = ew ∙ ap (pairs_of ts) eb in
    ap (λ j. put_mid i j zs ws) all
    ∙ writes-part xs ys zs ws i n (empty_cell a) (printed_pairs f i ts a) (omega arith)
    (ap length ew2 ∙ length-pairs_of ts a) ey
    (ez ∙ ap (λ j. by_position (length ys) (right_made (cell_at ys) j (empty_cell a))) ee)
    (λ k. ap (λ vs. cond (nat_le i k && nat_lt k (i + n)) (cell_at vs (k - i))
    (right_made (left_cleared f i) (i + n) (empty_cell a) k)) ew2
    ∙ grind (arith, nat_tests))

-- ---- one wide cell, as it is put

put-past : (f : ℕ → CellView) (i : ℕ) (x : CellView) (a : Attrs) (k : ℕ) → x.wide ≡ true → i + 2 ≤ k
    → put f i x a k ≡ cond ((k == (i + 2)) && (f (i + 1)).wide) (empty_cell a) (f k)
put-past f i x a k wide h = grind (arith, nat_tests)

-- ---- one character and then the others: g is the line once the first is put

module _ (f g : ℕ → CellView) (i x : ℕ) (xs : List ℕ) (a : Attrs) (k : ℕ) where
  step-left : k < i → g k ≡ cond (((k + 1) == i) && (f k).wide) (empty_cell (f k).attrs) (f k)
      → printed_pairs g (i + 2) xs a k ≡ printed_pairs f i (x ∷ xs) a k
  step-left h e = grind (arith, nat_tests)

  step-at : k ≡ i → g k ≡ cell_of x a → printed_pairs g (i + 2) xs a k ≡ printed_pairs f i (x ∷ xs) a k
  step-at h e =
      let none : k - i ≡ 0 = omega arith in
      let first : cell_at (pairs_of (x ∷ xs) a) (k - i) ≡ cell_of x a = ap (cell_at (pairs_of (x ∷ xs) a)) none in
      grind (arith, nat_tests)

  step-next : k ≡ i + 1 → g k ≡ continuation_cell
      → printed_pairs g (i + 2) xs a k ≡ printed_pairs f i (x ∷ xs) a k
  step-next h e =
      let one : k - i ≡ 1 = omega arith in
      let second : cell_at (pairs_of (x ∷ xs) a) (k - i) ≡ continuation_cell =
      ap (cell_at (pairs_of (x ∷ xs) a)) one in
      let narrow : (g k).wide ≡ false = ap (λ (c : CellView). c.wide) e in
      grind (arith, nat_tests)

  step-in : i + 2 ≤ k → k < i + 2 + 2 * length xs
      → printed_pairs g (i + 2) xs a k ≡ printed_pairs f i (x ∷ xs) a k
  step-in h l = let later = pair-later x xs a (k - i) (k - (i + 2)) (omega arith) in grind (arith, nat_tests)

step-past : (f g : ℕ → CellView) (i x : ℕ) (xs : List ℕ) (a : Attrs) (k : ℕ) → IsPaired f
    → i + 2 + 2 * length xs ≤ k → g k ≡ cond ((k == (i + 2)) && (f (i + 1)).wide) (empty_cell a) (f k)
    → printed_pairs g (i + 2) xs a k ≡ printed_pairs f i (x ∷ xs) a k
step-past f g i x [] a k p h e =
    ⊎_elim (λ (l : i + 2 < k). grind (arith, nat_tests))
    (λ (l : k ≤ i + 2).
    let q : k ≡ i + 1 + 1 = omega arith in
    let half : (f k).continuation ≡ (f (i + 1)).wide = ap (λ j. (f j).continuation) q ∙ p.next (i + 1) in
    grind (arith, nat_tests))
    (cases_lt (i + 2) k)
step-past f g i x (y ∷ ys) a k p h e =
    let same : g k ≡ f k = grind (arith, nat_tests) in
    grind (arith, nat_tests)

pub pairs-step : (f : ℕ → CellView) (i x : ℕ) (xs : List ℕ) (a : Attrs) (k : ℕ) → (cell_of x a).wide ≡ true
    → IsPaired f → printed_pairs (put f i (cell_of x a) a) (i + 2) xs a k ≡ printed_pairs f i (x ∷ xs) a k
pairs-step f i x xs a k wide p =
    let c = cell_of x a in
    let g = put f i c a in
    ⊎_elim (λ (e : k ≡ i). step-at f g i x xs a k e (grind (arith, nat_tests)))
    (⊎_elim (λ (l : k < i). step-left f g i x xs a k l (grind (arith, nat_tests)))
    (λ (l : i < k).
    ⊎_elim
    (λ (m : k < i + 2).
    let e : k ≡ i + 1 = omega arith in step-next f g i x xs a k e (grind (arith, nat_tests)))
    (λ (m : i + 2 ≤ k).
    ⊎_elim (λ (q : k < i + 2 + 2 * length xs). step-in f g i x xs a k m q)
    (λ (q : i + 2 + 2 * length xs ≤ k). step-past f g i x xs a k p q (put-past f i c a k wide m))
    (cases_lt k (i + 2 + 2 * length xs)))
    (cases_lt k (i + 2))))
    (cases_order k i)

pub pairs-none : (f : ℕ → CellView) (i : ℕ) (a : Attrs) (k : ℕ) → f k ≡ printed_pairs f i [] a k
pairs-none f i a k = grind (arith, nat_tests)

-- ---- whether the last column is emptied

and-false : (b c : Bool) → (b && (c && false)) ≡ false
and-false true true = refl
and-false true false = refl
and-false false c = refl

pub unflag-step : (n : ℕ) (f : ℕ → CellView) (i x : ℕ) (xs : List ℕ) (a : Attrs) → (cell_of x a).wide ≡ true
    → IsPaired f → i + 2 + 2 * length xs ≤ n
    → (not (put_unflags n f i (cell_of x a)) && not (pairs_unflag n (put f i (cell_of x a) a) (i + 2) xs))
    ≡ not (pairs_unflag n f i (x ∷ xs))
unflag-step n f i x [] a wide p h =
    let e : i + 1 + 1 ≡ i + 2 = omega arith in
    let half : (f (i + 2)).continuation ≡ (f (i + 1)).wide = ap (λ j. (f j).continuation) (sym e) ∙ p.next (i + 1) in
    let last : (i + 2 + 1 == n) ≡ (i + 3 == n) = ap (λ j. j == n) (omega arith) in
    grind (arith, nat_tests)
unflag-step n f i x (y ∷ ys) a wide p h =
    let c = cell_of x a in
    let j = i + 2 * length (x ∷ y ∷ ys) in
    let before : (i + 3 == n) ≡ false = grind (arith, nat_tests) in
    let far : (j == (i + 2)) ≡ false = grind (arith, nat_tests) in
    let same : put f i c a j ≡ f j = put-past f i c a j wide (omega arith)
    ∙ ap (λ b. cond (b && (f (i + 1)).wide) (empty_cell a) (f j)) far in
    let e : i + 2 + 2 * length (y ∷ ys) ≡ j = omega arith in
    let some : (length (y ∷ ys) == 0) ≡ false = grind (arith, nat_tests) in
    let more : (length (x ∷ y ∷ ys) == 0) ≡ false = grind (arith, nat_tests) in
    let later : pairs_unflag n (put f i c a) (i + 2) (y ∷ ys) ≡ pairs_unflag n f i (x ∷ y ∷ ys) =
    ap (λ b. not b && ((i + 2 + 2 * length (y ∷ ys) + 1 == n)
    && (put f i c a (i + 2 + 2 * length (y ∷ ys))).continuation)) some
    ∙ ap (λ m. (m + 1 == n) && (put f i c a m).continuation) e
    ∙ ap (λ (d : CellView). (j + 1 == n) && d.continuation) same
    ∙ sym (ap (λ b. not b && ((j + 1 == n) && (f j).continuation)) more) in
    let none : put_unflags n f i c ≡ false =
    ap (λ b. c.wide && ((f (i + 1)).wide && b)) before ∙ and-false c.wide ((f (i + 1)).wide) in
    ap (λ b. not b && not (pairs_unflag n (put f i c a) (i + 2) (y ∷ ys))) none ∙ ap not later
