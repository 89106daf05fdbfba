-- Lists of rows by positions.
use Rattle.std.proofs.Common.{◌≡◌, ℕ, ◌+◌, ◌-◌, ◌^◌, ◌<◌, ◌≤◌, ◌==◌, Bool, true, false, cond, List, length}
use Rattle.std.proofs.Common.{set, replicate, sym, refl, ap, ◌∙◌, arith, length-set, ⊎_elim}
use Rattle.std.proofs.Common.{take, drop, ◌++◌}
use Rattle.std.proofs.lemmas.Bool.{cond_both, eqb-true, eqb-false, cases_lt}
use Rattle.std.proofs.lemmas.Bool.Decides.{nat_tests}
use Rattle.std.proofs.lemmas.List.{get_or-set_same, get_or-set_other, get_or_past, get_or-replicate, length-replicate}
use Rattle.std.proofs.lemmas.List.{ext_get_or, take-append-le, take_all}
use Rattle.std.proofs.lemmas.List.FromFn.{fill_by_all, get_or-map-range_with_len, length-map-range_with_len}
use Rattle.vt100_cells.specs.Cell.{default_cell}
use Rattle.vt100_rows.specs.Row.{RowView, blank_row}
use Rattle.vt100_rows.proofs.RowLemmas.{IsRow-blank}
use Rattle.vt100_rows.specs.Sheet.{row_at, rows_by_position, IsRowOf, IsSheet, changed_between}

-- ---- reading

pub row_at-set : (rows : List RowView) (r : ℕ) (v : RowView) (k : ℕ) → r < length rows
    → row_at (set rows r v) k ≡ cond (k == r) v (row_at rows k)
row_at-set rows r v k h =
    cond_both (k == r) v (row_at rows k) (λ w. row_at (set rows r v) k ≡ w)
    (λ e. rw (eqb-true k r e) (get_or-set_same rows r v (blank_row 0) h))
    (λ e. get_or-set_other rows r k v (blank_row 0) (eqb-false k r e))

pub rows_by_position_is : (n : ℕ) (f : ℕ → RowView) (rows : List RowView) → length rows ≡ n
    → ((k : ℕ) → k < n → row_at rows k ≡ f k) → rows ≡ rows_by_position n f
rows_by_position_is n f rows e h = fill_by_all f rows n (blank_row 0) e h

pub row_at-by_position : (n : ℕ) (f : ℕ → RowView) (k : ℕ) → k < n → row_at (rows_by_position n f) k ≡ f k
row_at-by_position n f k h = get_or-map-range_with_len f 0 n k k (blank_row 0) h (omega arith)

pub length-rows_by_position : (n : ℕ) (f : ℕ → RowView) → length (rows_by_position n f) ≡ n
length-rows_by_position n f = length-map-range_with_len f 0 n

-- rows of which each is known
pub row_at-read : (n : ℕ) (f : ℕ → RowView) (rows : List RowView) (k : ℕ) → rows ≡ rows_by_position n f → k < n
    → row_at rows k ≡ f k
row_at-read n f rows k e h = ap (λ vs. row_at vs k) e ∙ row_at-by_position n f k h

pub length-read : (n : ℕ) (f : ℕ → RowView) (rows : List RowView) → rows ≡ rows_by_position n f → length rows ≡ n
length-read n f rows e = ap length e ∙ length-rows_by_position n f

pub read_again : (n m : ℕ) (f g : ℕ → RowView) (rows : List RowView) → rows ≡ rows_by_position m f → m ≡ n
    → ((k : ℕ) → k < n → f k ≡ g k) → rows ≡ rows_by_position n g
read_again n m f g rows e same each = rows_by_position_is n g rows (length-read m f rows e ∙ same)
    (λ k h. row_at-read m f rows k e (omega arith) ∙ each k h)

pub row_at_past : (rows : List RowView) (k : ℕ) → length rows ≤ k → row_at rows k ≡ blank_row 0
row_at_past rows k h = get_or_past rows k (blank_row 0) h

pub rows_equal : (rows others : List RowView) → length rows ≡ length others
    → ((k : ℕ) → k < length rows → row_at rows k ≡ row_at others k) → rows ≡ others
rows_equal rows others e h = ext_get_or (blank_row 0) rows others e h

-- what a Vec holds after its elements were lent as a slice
pub refilled : {X : Type 0} (n : ℕ) (ys xs : List X) → n ≡ length xs → length ys ≡ length xs
    → take n (ys ++ drop (length ys) xs) ≡ ys
refilled n ys xs e l = take-append-le n ys (drop (length ys) xs) (omega arith) ∙ take_all n ys (omega arith)

-- ---- one more row has changed

pub changes-more : (f : RowView → RowView) (old rows : List RowView) (first r : ℕ) (v : RowView) → first ≤ r
    → r < length rows → ((k : ℕ) → row_at rows k ≡ changed_between f old first r k) → v ≡ f (row_at rows r)
    → (k : ℕ) → row_at (set rows r v) k ≡ changed_between f old first (r + 1) k
changes-more f old rows first r v h l e ev k = row_at-set rows r v k l ∙ grind (arith, nat_tests, e r, e k)

pub all-read : (f : RowView → RowView) (rows : List RowView) (k : ℕ) → k < length rows
    → changed_between f rows 0 (length rows) k ≡ f (row_at rows k)
all-read f rows k h = grind (arith, nat_tests)

pub changes-done : (f : RowView → RowView) (old rows : List RowView) (first r end : ℕ) → length rows ≡ length old
    → r ≡ end → ((k : ℕ) → row_at rows k ≡ changed_between f old first r k)
    → rows ≡ rows_by_position (length old) (changed_between f old first end)
changes-done f old rows first r end n done read =
    rows_by_position_is (length old) (changed_between f old first end) rows n
    (λ k _. read k ∙ ap (λ j. changed_between f old first j k) done)

-- ---- what is true of the rows of a screen

pub IsRowOf-blank : (width : ℕ) → width < 2 ^ 16 → IsRowOf width (blank_row width)
IsRowOf-blank width h = record { row = IsRow-blank width h; wide = length-replicate width default_cell }

pub IsRowOf-cond : (b : Bool) (width : ℕ) (v w : RowView) → (b ≡ true → IsRowOf width v)
    → (b ≡ false → IsRowOf width w) → IsRowOf width (cond b v w)
IsRowOf-cond true width v w p q = p refl
IsRowOf-cond false width v w p q = q refl

pub wrapped-cond : (b : Bool) (v w : RowView) → (b ≡ true → v.wrapped ≡ false) → (b ≡ false → w.wrapped ≡ false)
    → (cond b v w).wrapped ≡ false
wrapped-cond true v w p q = p refl
wrapped-cond false v w p q = q refl

pub IsSheet-none : (height width : ℕ) (rows : List RowView) → length rows ≤ 0 → IsSheet height width rows
IsSheet-none height width rows h = record {
  count = λ l. absurd (omega arith);
  each = λ r l. absurd (omega arith);
  last = ap (λ (v : RowView). v.wrapped) (row_at_past rows (height - 1) (omega arith));
}

pub IsSheet-with_row : (height width : ℕ) (rows : List RowView) (r : ℕ) (v : RowView) → IsSheet height width rows
    → r < length rows → IsRowOf width v → ((r + 1) ≡ height → v.wrapped ≡ false) → IsSheet height width (set rows r v)
IsSheet-with_row height width rows r v i h row last = record {
  count = λ l. length-set rows r v ∙ i.count (omega (arith, length-set rows r v));
  each = λ k l. rw (row_at-set rows r v k h) (IsRowOf-cond (k == r) width v (row_at rows k) (λ _. row)
      (λ _. i.each k (omega (arith, length-set rows r v))));
  last = ap (λ (x : RowView). x.wrapped) (row_at-set rows r v (height - 1) h)
      ∙ wrapped-cond ((height - 1) == r) v (row_at rows (height - 1))
      (λ b. last (omega (arith, i.count (omega arith), eqb-true (height - 1) r b))) (λ _. i.last);
}

pub IsSheet-by_position : (height width n : ℕ) (f : ℕ → RowView) → 0 < height → (0 < n → n ≡ height)
    → ((r : ℕ) → r < n → IsRowOf width (f r)) → (0 < n → (f (height - 1)).wrapped ≡ false)
    → IsSheet height width (rows_by_position n f)
IsSheet-by_position height width n f some count each last =
    let e = length-rows_by_position n f in
    record {
      count = λ l. e ∙ count (omega (arith, e));
      each = λ r l. rw (row_at-by_position n f r (omega (arith, e))) (each r (omega (arith, e)));
      last = ⊎_elim
          (λ (l : 0 < n). ap (λ (v : RowView). v.wrapped)
          (row_at-by_position n f (height - 1) (omega (arith, count l))) ∙ last l)
          (λ (l : n ≤ 0). ap (λ (v : RowView). v.wrapped)
          (row_at_past (rows_by_position n f) (height - 1) (omega (arith, e))))
          (cases_lt 0 n);
    }

pub IsSheet-blank : (height width n : ℕ) → (0 < n → n ≡ height) → width < 2 ^ 16
    → IsSheet height width (replicate n (blank_row width))
IsSheet-blank height width n count small =
    let e = length-replicate n (blank_row width) in
    record {
      count = λ l. e ∙ count (omega (arith, e));
      each = λ r l. rw (get_or-replicate n r (blank_row width) (blank_row 0) (omega (arith, e)))
          (IsRowOf-blank width small);
      last = ⊎_elim
          (λ (l : height - 1 < n). ap (λ (v : RowView). v.wrapped)
          (get_or-replicate n (height - 1) (blank_row width) (blank_row 0) l))
          (λ (l : n ≤ height - 1). ap (λ (v : RowView). v.wrapped)
          (row_at_past (replicate n (blank_row width)) (height - 1) (omega (arith, e))))
          (cases_lt (height - 1) n);
    }

-- rows of one width that are made blank
pub resets-all : (rows ws : List RowView) (width : ℕ) → ((r : ℕ) → r < length rows → IsRowOf width (row_at rows r))
    → ws ≡ rows_by_position (length rows) (λ r. blank_row (length (row_at rows r).cells))
    → ws ≡ replicate (length rows) (blank_row width)
resets-all rows ws width each e =
    let n = length rows in
    let blank = blank_row width in
    let f : ℕ → RowView = λ r. blank_row (length (row_at rows r).cells) in
    rows_equal ws (replicate n blank) (length-read n f ws e ∙ sym (length-replicate n blank))
    (λ k h. let l : k < n = omega (arith, length-read n f ws e) in
    row_at-read n f ws k e l ∙ ap blank_row (each k l).wide ∙ sym (get_or-replicate n k blank (blank_row 0) l))

pub IsSheet-with_blank : (height width : ℕ) (rows : List RowView) (r : ℕ) (v : RowView) → IsSheet height width rows
    → r < length rows → width < 2 ^ 16 → v ≡ blank_row width → IsSheet height width (set rows r v)
IsSheet-with_blank height width rows r v i h small e =
    IsSheet-with_row height width rows r v i h (rw e (IsRowOf-blank width small))
    (λ _. ap (λ (x : RowView). x.wrapped) e)
