-- What edits keep true of a line.
use Rattle.std.proofs.Common.{◌≡◌, ℕ, ◌+◌, ◌-◌, ◌<◌, ◌≤◌, true, false, cond, ⊎_elim, ◌⊎◌, sym, refl, ap, ◌∙◌, arith}
use Rattle.std.proofs.lemmas.Bool.{cases_eq, cases_lt, cases_order, false≢true}
use Rattle.std.proofs.lemmas.Bool.Decides.{nat_tests}
use Rattle.vt100_forms.specs.declared.attrs.Attrs.{Attrs}
use Rattle.vt100_cells.specs.Cell.{CellView, continuation_cell, cell_of, is_filled}
use Rattle.vt100_cells.specs.Line.{IsPaired, Bounded, span_of, update, put, put_unflags, pair_wiped, wiped}
use Rattle.vt100_cells.specs.Line.{wipe_unflags}
use Rattle.vt100_cells.proofs.WidthLemmas.{space_is_narrow}

-- a wide cell is before the last column
pub wide_within : (n : ℕ) (f : ℕ → CellView) (k : ℕ) → Bounded n f → IsPaired f → (f k).wide ≡ true → k + 1 < n
wide_within n f k b p w =
    ⊎_elim (λ l. l) (λ l. absurd (false≢true (sym (ap (λ (c : CellView). c.continuation) (b (k + 1) l)) ∙ p.next k
    ∙ w))) (cases_lt (k + 1) n)

-- ---- erasing

pub Bounded-wiped : (n : ℕ) (f : ℕ → CellView) (s e : ℕ) (a : Attrs) → Bounded n f → e ≤ n → Bounded n (wiped f s e a)
Bounded-wiped n f s e a b l k h = grind (arith, nat_tests, b k h)

pub IsPaired-wiped : (f : ℕ → CellView) (s e : ℕ) (a : Attrs) → IsPaired f → IsPaired (wiped f s e a)
IsPaired-wiped f s e a p = record {
  first = grind (arith, nat_tests, p.first);
  next = λ k. grind (arith, nat_tests, p.next k, p.blank k);
  blank = λ k h. grind (arith, nat_tests, p.blank k);
}

-- where the last column isn't emptied it stays
pub wiped-last : (n : ℕ) (f : ℕ → CellView) (s e : ℕ) (a : Attrs) → IsPaired f → Bounded n f → 0 < n → e ≤ n
    → wipe_unflags n f s e ≡ false → wiped f s e a (n - 1) ≡ f (n - 1)
wiped-last n f s e a p b pos l u = grind (arith, nat_tests, p.next (n - 1), b n)

-- ---- both halves

pub Bounded-pair_wiped : (n : ℕ) (f : ℕ → CellView) (i : ℕ) → Bounded n f → Bounded n (pair_wiped f i)
Bounded-pair_wiped n f i b k h = grind (arith, nat_tests, b k h)

pub IsPaired-pair_wiped : (f : ℕ → CellView) (i : ℕ) → IsPaired f → IsPaired (pair_wiped f i)
IsPaired-pair_wiped f i p = record {
  first = grind (arith, nat_tests, p.first);
  next = λ k. grind (arith, nat_tests, p.next k, p.blank i, p.next i, p.next (i - 1));
  blank = λ k h. grind (arith, nat_tests, p.blank k);
}

-- ---- a cell that is put

pub Bounded-put_narrow : (n : ℕ) (f : ℕ → CellView) (i : ℕ) (x : CellView) (a : Attrs) → Bounded n f → IsPaired f
    → i < n → x.wide ≡ false → Bounded n (put f i x a)
Bounded-put_narrow n f i x a b p l w k h = grind (arith, nat_tests, b k h, p.next i)

pub Bounded-put_wide : (n : ℕ) (f : ℕ → CellView) (i : ℕ) (x : CellView) (a : Attrs) → Bounded n f → IsPaired f
    → i + 1 < n → x.wide ≡ true → Bounded n (put f i x a)
Bounded-put_wide n f i x a b p l w k h =
    let narrow : i + 1 + 1 ≡ k → (f (i + 1)).wide ≡ false = λ e. sym (p.next (i + 1))
    ∙ ap (λ j. (f j).continuation) e ∙ ap (λ (c : CellView). c.continuation) (b k h) in
    grind (arith, nat_tests, narrow, b k h)

pub Bounded-put : (n : ℕ) (f : ℕ → CellView) (i : ℕ) (x : CellView) (a : Attrs) → Bounded n f → IsPaired f
    → i + span_of x ≤ n → Bounded n (put f i x a)
Bounded-put n f i x a b p l =
    (elim x.wide as (λ w. x.wide ≡ w → i + cond w 2 1 ≤ n → Bounded n (put f i x a)) [
      | true ↦ λ e h. Bounded-put_wide n f i x a b p (omega arith) e
      | false ↦ λ e h. Bounded-put_narrow n f i x a b p (omega arith) e
    ]) refl l

-- a cell of the same width where there is no second half
pub put-same : (f : ℕ → CellView) (i : ℕ) (x : CellView) (a : Attrs) (k : ℕ) → IsPaired f → (f i).continuation ≡ false
    → x.wide ≡ (f i).wide → put f i x a k ≡ update f i x k
put-same f i x a k p c w = grind (arith, nat_tests, p.next k, p.next i, p.blank k, p.next (i + 1))

put-next : (f : ℕ → CellView) (i k : ℕ) (x : CellView) (a : Attrs) → IsPaired f → x.continuation ≡ false
    → (put f i x a (k + 1)).continuation ≡ (put f i x a k).wide
put-next f i k x a p n =
    ⊎_elim (λ (e : k ≡ i). rw e (grind (arith, nat_tests, p.next i)))
    (⊎_elim
    (λ (l : k < i). ⊎_elim (λ (m : k + 1 < i). grind (arith, nat_tests, p.next k, p.blank (k + 1)))
    (λ m. let e : i ≡ k + 1 = omega arith in rw e (grind (arith, nat_tests)))
    (cases_lt (k + 1) i))
    (λ (l : i < k). ⊎_elim (λ (m : i + 2 < k). grind (arith, nat_tests, p.next k))
    (λ m. ⊎_elim
    (λ (e : k ≡ i + 1). let space = space_is_narrow in
    rw e (grind (arith, nat_tests, p.next i, p.next (i + 1), p.blank (i + 1))))
    (λ ne. let e : k ≡ i + 1 + 1 = omega arith in
    rw e (grind (arith, nat_tests, p.next (i + 1 + 1), p.next (i + 1), p.blank (i + 1 + 1))))
    (cases_eq k (i + 1)))
    (cases_lt (i + 2) k)))
    (cases_order k i)

pub IsPaired-put : (f : ℕ → CellView) (i : ℕ) (x : CellView) (a : Attrs) → IsPaired f → x.continuation ≡ false
    → IsPaired (put f i x a)
IsPaired-put f i x a p n = record {
  first = grind (arith, nat_tests, p.first);
  next = λ k. put-next f i k x a p n;
  blank = λ k e. grind (arith, nat_tests, p.blank k);
}

put-last : (f : ℕ → CellView) (i n : ℕ) (x : CellView) (a : Attrs) → i < n → put_unflags n f i x ≡ false
    → (put f i x a (n - 1) ≡ x) ⊎ ((put f i x a (n - 1) ≡ continuation_cell)
    ⊎ ((put f i x a (n - 1) ≡ cell_of 32 a) ⊎ (put f i x a (n - 1) ≡ f (n - 1))))
put-last f i n x a h u = grind (arith, nat_tests)

pub put-filled : (f : ℕ → CellView) (i n : ℕ) (x : CellView) (a : Attrs) → i < n → put_unflags n f i x ≡ false
    → is_filled x ≡ true → is_filled (f (n - 1)) ≡ true → is_filled (put f i x a (n - 1)) ≡ true
put-filled f i n x a h u y g =
    ⊎_elim (λ (q : put f i x a (n - 1) ≡ x). ap is_filled q ∙ y)
    (⊎_elim (λ (q : put f i x a (n - 1) ≡ continuation_cell). ap is_filled q)
    (⊎_elim (λ (q : put f i x a (n - 1) ≡ cell_of 32 a). ap is_filled q) (λ q. ap is_filled q ∙ g)))
    (put-last f i n x a h u)
