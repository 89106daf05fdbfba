-- What the code does where cells move along a row, column by column.
use Rattle.std.proofs.Common.{◌≡◌, ℕ, ◌+◌, ◌-◌, ◌<◌, ◌≤◌, ◌==◌, true, false, cond, ◌&&◌, List, ◌++◌, length, set, take}
use Rattle.std.proofs.Common.{drop, replicate, refl, ap, ◌∙◌, arith, length-set, length-append, length-take}
use Rattle.std.proofs.Common.{length-drop, nat_le}
use Rattle.std.proofs.lemmas.Bool.Decides.{nat_tests}
use Rattle.std.proofs.lemmas.List.{places, length-replicate}
use borrow.Rule.Slice.PartMut.{put_mid}
use Rattle.vt100_cells.specs.Cell.{CellView, default_cell, empty_cell, continuation_cell}
use Rattle.vt100_cells.specs.Line.{cut, opened, closed, left_cleared, right_cleared, shifted_right, mended}
use Rattle.vt100_cells.specs.Line.{shifted_left}
use Rattle.vt100_cells.specs.Cells.{cell_at, by_position}
use Rattle.vt100_cells.proofs.ListLemmas.{by_position_is, by_position-same, cell_at_past, cell_at-set_within, reads}
use Rattle.vt100_cells.proofs.ListLemmas.{reads_len}

-- ---- to the right

shifted-read : (xs ys zs : List CellView) (i n k : ℕ) → i + n ≤ length xs → k < length xs
    → ys ≡ drop (length xs - i - n) (drop i xs) ++ take (length xs - i - n) (drop i xs) → zs ≡ replicate n default_cell
    → cell_at (put_mid i n (put_mid i (length xs - i) xs ys) zs) k ≡ shifted_right (cell_at xs) i n k
shifted-read xs ys zs i n k h l ey ez = grind (arith, places, nat_tests)

prefix-len : (xs ys : List CellView) (i n : ℕ) → i + n ≤ length xs → length ys ≡ length xs - i
    → length (take n (drop i (put_mid i (length xs - i) xs ys))) ≡ n
prefix-len xs ys i n h e = grind (arith, places)

-- a part of the row is turned, and its start is written over: m is i + n - i
pub shifts-right : (xs ys zs mid : List CellView) (i n m : ℕ) (x : CellView) → i + n ≤ length xs → m ≡ n
    → mid ≡ drop i xs → ys ≡ drop (length mid - n) mid ++ take (length mid - n) mid
    → zs ≡ replicate (length (take m (drop i (put_mid i (length xs - i) xs ys)))) x → x ≡ default_cell
    → put_mid i m (put_mid i (length xs - i) xs ys) zs ≡ by_position (length xs) (shifted_right (cell_at xs) i n)
shifts-right xs ys zs mid i n m x h e em ey ez ex =
    let len : length mid - n ≡ length xs - i - n =
    ap (λ (l : List CellView). length l - n) em ∙ ap (λ j. j - n) (length-drop i xs) in
    let ey2 : ys ≡ drop (length xs - i - n) (drop i xs) ++ take (length xs - i - n) (drop i xs) =
    ey ∙ ap (λ j. drop j mid ++ take j mid) len
    ∙ ap (λ (l : List CellView). drop (length xs - i - n) l ++ take (length xs - i - n) l) em in
    let ly : length ys ≡ length xs - i = ap length ey2 ∙ simp (length-append, length-take, length-drop) (omega arith) in
    let ez2 : zs ≡ replicate n default_cell = ez ∙ ap (λ j.
    replicate (length (take j (drop i (put_mid i (length xs - i) xs ys)))) x) e
    ∙ ap (λ j. replicate j x) (prefix-len xs ys i n h ly) ∙ ap (replicate n) ex in
    by_position_is (length xs) (shifted_right (cell_at xs) i n) (put_mid i m (put_mid i (length xs - i) xs ys) zs)
    (grind (arith, places))
    (λ k l. ap (λ j. cell_at (put_mid i j (put_mid i (length xs - i) xs ys) zs) k) e
    ∙ shifted-read xs ys zs i n k h l ey2 ez2)

-- ---- the end of the row

pub cuts-wide : (xs : List CellView) → 0 < length xs → (cell_at xs (length xs - 1)).wide ≡ true
    → set xs (length xs - 1) (empty_cell (cell_at xs (length xs - 1)).attrs)
    ≡ by_position (length xs) (cut (length xs) (cell_at xs))
cuts-wide xs h w =
    let x = empty_cell (cell_at xs (length xs - 1)).attrs in
    by_position_is (length xs) (cut (length xs) (cell_at xs)) (set xs (length xs - 1) x)
    (length-set xs (length xs - 1) x)
    (λ k l. cell_at-set_within xs (length xs - 1) x k l ∙ grind (arith, nat_tests))

pub cuts-narrow : (xs : List CellView) → (0 < length xs → (cell_at xs (length xs - 1)).wide ≡ false)
    → xs ≡ by_position (length xs) (cut (length xs) (cell_at xs))
cuts-narrow xs w = by_position_is (length xs) (cut (length xs) (cell_at xs)) xs refl
    (λ k h. let narrow = w (omega arith) in grind (arith, nat_tests))

cut-like : (n : ℕ) (f g : ℕ → CellView) (k : ℕ) → f k ≡ g k → cut n f k ≡ cut n g k
cut-like n f g k e = ap (λ (c : CellView). cond (nat_le n k) default_cell
    (cond (((k + 1) == n) && c.wide) (empty_cell c.attrs) c)) e

-- ---- a pair that an insertion split

pub mends-pair : (xs : List CellView) (i j : ℕ) (x y : CellView) → x ≡ default_cell → y ≡ continuation_cell
    → set (set xs j x) i y ≡ by_position (length xs) (mended (cell_at xs) i j)
mends-pair xs i j x y ex ey =
    ap (λ d. set (set xs j d) i y) ex ∙ ap (λ d. set (set xs j default_cell) i d) ey
    ∙ by_position_is (length xs) (mended (cell_at xs) i j) (set (set xs j default_cell) i continuation_cell)
    (length-set (set xs j default_cell) i continuation_cell ∙ length-set xs j default_cell) (λ k h.
    cell_at-set_within (set xs j default_cell) i continuation_cell k (omega (arith, length-set xs j default_cell))
    ∙ ap (λ c. cond (k == i) continuation_cell c) (cell_at-set_within xs j default_cell k h))

-- ---- the whole insertion

-- zs is the row g, of as many cells as xs, and ws without a half at its end
cuts-end : (xs zs ws : List CellView) (g : ℕ → CellView) → zs ≡ by_position (length xs) g
    → ws ≡ by_position (length zs) (cut (length zs) (cell_at zs)) → ws ≡ by_position (length xs) (cut (length xs) g)
cuts-end xs zs ws g ez ew =
    let n = length xs in
    let lz = reads_len n g zs ez in
    let whole : ws ≡ by_position n (cut n (cell_at zs)) = ew ∙ ap (λ m. by_position m (cut m (cell_at zs))) lz in
    by_position_is n (cut n g) ws (reads_len n (cut n (cell_at zs)) ws whole)
    (λ k h. reads n (cut n (cell_at zs)) ws whole k h ∙ cut-like n (cell_at zs) g k (reads n g zs ez k h))

-- xs is the row, ys the row after the shift, zs that after a mended pair, ws the result
pub inserts-whole : (xs ys ws : List CellView) (i n : ℕ) → (cell_at xs i).continuation ≡ false
    → ys ≡ by_position (length xs) (shifted_right (cell_at xs) i n)
    → ws ≡ by_position (length ys) (cut (length ys) (cell_at ys))
    → ws ≡ by_position (length xs) (cut (length xs) (opened (cell_at xs) i n))
inserts-whole xs ys ws i n c ey ew =
    let f = cell_at xs in
    cuts-end xs ys ws (opened f i n)
    (ey ∙ by_position-same (length xs) (shifted_right f i n) (opened f i n) (λ k. grind (arith, nat_tests))) ew

pub inserts-mended : (xs ys zs ws : List CellView) (i n : ℕ) → 0 < n → (cell_at xs i).continuation ≡ true
    → ys ≡ by_position (length xs) (shifted_right (cell_at xs) i n)
    → zs ≡ by_position (length ys) (mended (cell_at ys) i (i + n))
    → ws ≡ by_position (length zs) (cut (length zs) (cell_at zs))
    → ws ≡ by_position (length xs) (cut (length xs) (opened (cell_at xs) i n))
inserts-mended xs ys zs ws i n pos c ey ez ew =
    let f = cell_at xs in
    let g = mended (cell_at ys) i (i + n) in
    let ly = reads_len (length xs) (shifted_right f i n) ys ey in
    cuts-end xs zs ws (opened f i n)
    (by_position_is (length xs) (opened f i n) zs (reads_len (length ys) g zs ez ∙ ly)
    (λ k h. let e = reads (length xs) (shifted_right f i n) ys ey k h in
    reads (length ys) g zs ez k (omega arith) ∙ grind (arith, nat_tests))) ew

-- ---- to the left

moved-read : (xs zs ys : List CellView) (s n k : ℕ) → s + n ≤ length xs → k < length xs → zs ≡ replicate n default_cell
    → ys ≡ drop n (drop s (put_mid s n xs zs)) ++ take n (drop s (put_mid s n xs zs))
    → cell_at (put_mid s (length xs - s) (put_mid s n xs zs) ys) k ≡ shifted_left (length xs) (cell_at xs) s n k
moved-read xs zs ys s n k h l ez ey = grind (arith, places, nat_tests)

pub moves-left : (xs zs ys mid : List CellView) (s n m : ℕ) (x : CellView) → s + n ≤ length xs → m ≡ n
    → zs ≡ replicate (length (take m (drop s xs))) x → x ≡ default_cell
    → mid ≡ drop s (put_mid s m xs zs) → ys ≡ drop n mid ++ take n mid
    → put_mid s (length (put_mid s m xs zs) - s) (put_mid s m xs zs) ys
    ≡ by_position (length xs) (shifted_left (length xs) (cell_at xs) s n)
moves-left xs zs ys mid s n m x h e ez ex em ey =
    let prefix : length (take n (drop s xs)) ≡ n = simp (length-take, length-drop) (omega arith) in
    let ez2 : zs ≡ replicate n default_cell = ez ∙ ap (λ j. replicate (length (take j (drop s xs))) x) e
    ∙ ap (λ j. replicate j x) prefix ∙ ap (replicate n) ex in
    let lz : length zs ≡ n = ap length ez2 ∙ length-replicate n default_cell in
    let lw : length (put_mid s n xs zs) ≡ length xs = simp (length-append, length-take, length-drop) (omega arith) in
    let em2 : mid ≡ drop s (put_mid s n xs zs) = em ∙ ap (λ j. drop s (put_mid s j xs zs)) e in
    let ey2 : ys ≡ drop n (drop s (put_mid s n xs zs)) ++ take n (drop s (put_mid s n xs zs)) =
    ey ∙ ap (λ (l : List CellView). drop n l ++ take n l) em2 in
    ap (λ j. put_mid s (length (put_mid s j xs zs) - s) (put_mid s j xs zs) ys) e
    ∙ ap (λ j. put_mid s (j - s) (put_mid s n xs zs) ys) lw
    ∙ by_position_is (length xs) (shifted_left (length xs) (cell_at xs) s n)
    (put_mid s (length xs - s) (put_mid s n xs zs) ys) (grind (arith, places))
    (λ k l. moved-read xs zs ys s n k h l ez2 ey2)

-- ---- the whole removal

removes-read : (xs ys zs : List CellView) (s n k : ℕ) → length ys ≡ length xs → length zs ≡ length xs → k < length xs
    → s + n ≤ length xs → 0 < n
    → ((j : ℕ) → j < length xs → cell_at ys j ≡ left_cleared (cell_at xs) s j)
    → ((j : ℕ) → j < length xs → cell_at zs j ≡ right_cleared (cell_at ys) (s + n) j)
    → (cell_at xs (length xs)).continuation ≡ false
    → shifted_left (length xs) (cell_at zs) s n k ≡ closed (length xs) (cell_at xs) s n k
removes-read xs ys zs s n k ly lz l h pos ry rz past =
    grind (arith, nat_tests, ry k, ry (k + n), ry (s + n), rz k, rz (k + n), rz (s + n))

pub removes : (xs ys zs ws : List CellView) (s n : ℕ) → s + n ≤ length xs → 0 < n
    → ys ≡ by_position (length xs) (left_cleared (cell_at xs) s)
    → zs ≡ by_position (length ys) (right_cleared (cell_at ys) (s + n))
    → ws ≡ by_position (length zs) (shifted_left (length zs) (cell_at zs) s n)
    → ws ≡ by_position (length xs) (closed (length xs) (cell_at xs) s n)
removes xs ys zs ws s n h pos ey ez ew =
    let ly = reads_len (length xs) (left_cleared (cell_at xs) s) ys ey in
    let lz = reads_len (length ys) (right_cleared (cell_at ys) (s + n)) zs ez ∙ ly in
    let lw = reads_len (length zs) (shifted_left (length zs) (cell_at zs) s n) ws ew ∙ lz in
    by_position_is (length xs) (closed (length xs) (cell_at xs) s n) ws lw
    (λ k l. reads (length zs) (shifted_left (length zs) (cell_at zs) s n) ws ew k (omega arith)
    ∙ ap (λ m. shifted_left m (cell_at zs) s n k) lz
    ∙ removes-read xs ys zs s n k ly lz l h pos (reads (length xs) (left_cleared (cell_at xs) s) ys ey)
    (λ j m. reads (length ys) (right_cleared (cell_at ys) (s + n)) zs ez j (omega arith))
    (ap (λ (c : CellView). c.continuation) (cell_at_past xs (length xs) (omega arith))))
