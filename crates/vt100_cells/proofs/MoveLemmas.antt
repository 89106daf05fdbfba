-- Cells that move along a line keep pairs whole.
use Rattle.std.proofs.Common.{◌≡◌, ℕ, ◌+◌, ◌-◌, ◌<◌, ◌≤◌, true, false, ⊎_elim, sym, ap, ◌∙◌, arith}
use Rattle.std.proofs.lemmas.Bool.{cases_lt}
use Rattle.std.proofs.lemmas.Bool.Decides.{nat_tests}
use Rattle.vt100_cells.specs.Cell.{CellView}
use Rattle.vt100_cells.specs.Line.{IsPaired, Bounded, cut, opened, closed, extended}

-- ---- the end of the line

pub Bounded-cut : (n : ℕ) (f : ℕ → CellView) → Bounded n (cut n f)
Bounded-cut n f k h = grind (arith, nat_tests)

pub IsPaired-cut : (n : ℕ) (f : ℕ → CellView) → IsPaired f → IsPaired (cut n f)
IsPaired-cut n f p = record {
  first = grind (arith, nat_tests, p.first);
  next = λ k. grind (arith, nat_tests, p.next k, p.blank (k + 1));
  blank = λ k h. grind (arith, nat_tests, p.blank k);
}

-- ---- cells that come in

opened-next-after : (f : ℕ → CellView) (i m k : ℕ) → i + m ≤ k → 0 < m
    → (f (k + 1 - m)).continuation ≡ (f (k - m)).wide → ((f i).continuation ≡ true → (f i).wide ≡ false)
    → (opened f i m (k + 1)).continuation ≡ (opened f i m k).wide
opened-next-after f i m k h pos e b = grind (arith, nat_tests, b)

opened-next : (f : ℕ → CellView) (i m k : ℕ) → IsPaired f → 0 < m
    → (opened f i m (k + 1)).continuation ≡ (opened f i m k).wide
opened-next f i m k p pos =
    ⊎_elim (λ (a : k + 1 < i). grind (arith, nat_tests, p.next k))
    (λ (a : i ≤ k + 1). ⊎_elim
    (λ (b : k < i). let e : i ≡ k + 1 = omega arith in rw e (grind (arith, nat_tests, p.next k)))
    (λ (b : i ≤ k). ⊎_elim (λ (d : k + 1 < i + m). grind (arith, nat_tests))
    (λ (d : i + m ≤ k + 1). ⊎_elim
    (λ (q : k < i + m). let at : k + 1 - m ≡ i = omega arith in
    let same : f (k + 1 - m) ≡ f i = ap f at in
    grind (arith, nat_tests))
    (λ (q : i + m ≤ k). let e : k - m + 1 ≡ k + 1 - m = omega arith in
    opened-next-after f i m k q pos (ap (λ j. (f j).continuation) (sym e) ∙ p.next (k - m))
    (λ h. ap (λ (c : CellView). c.wide) (p.blank i h)))
    (cases_lt k (i + m)))
    (cases_lt (k + 1) (i + m)))
    (cases_lt k i))
    (cases_lt (k + 1) i)

-- the line runs on past its end, so it may have a wide cell in its last column
pub IsPaired-opened : (f : ℕ → CellView) (i m : ℕ) → IsPaired f → 0 < m → IsPaired (opened f i m)
IsPaired-opened f i m p pos = record {
  first = grind (arith, nat_tests, p.first);
  next = λ k. opened-next f i m k p pos;
  blank = λ k e. grind (arith, nat_tests, p.blank k, p.blank (k - m));
}

-- ---- cells that go

closed-next : (m : ℕ) (f : ℕ → CellView) (s n k : ℕ) → IsPaired f → Bounded m f → s + n ≤ m → 0 < n
    → (closed m f s n (k + 1)).continuation ≡ (closed m f s n k).wide
closed-next m f s n k p past l pos =
    ⊎_elim (λ (a : k + 1 < s). grind (arith, nat_tests, p.next k, p.blank (k + 1)))
    (λ (a : s ≤ k + 1). ⊎_elim
    (λ (b : k < s). let e : s ≡ k + 1 = omega arith in rw e (grind (arith, nat_tests)))
    (λ (b : s ≤ k). let e : k + n + 1 ≡ k + 1 + n = omega arith in
    let next : (f (k + 1 + n)).continuation ≡ (f (k + n)).wide =
    ap (λ j. (f j).continuation) (sym e) ∙ p.next (k + n) in
    grind (arith, nat_tests, p.blank (k + n), past (k + n), past (k + 1 + n)))
    (cases_lt k s))
    (cases_lt (k + 1) s)

pub IsPaired-closed : (m : ℕ) (f : ℕ → CellView) (s n : ℕ) → IsPaired f → Bounded m f → s + n ≤ m → 0 < n
    → IsPaired (closed m f s n)
IsPaired-closed m f s n p past l pos = record {
  first = grind (arith, nat_tests, p.first);
  next = λ k. closed-next m f s n k p past l pos;
  blank = λ k e. grind (arith, nat_tests, p.blank k, p.blank (k + n));
}

pub Bounded-closed : (m : ℕ) (f : ℕ → CellView) (s n : ℕ) → s + n ≤ m → 0 < n → Bounded m (closed m f s n)
Bounded-closed m f s n l pos k h = grind (arith, nat_tests)

-- ---- a longer line

pub IsPaired-extended : (m : ℕ) (f : ℕ → CellView) (x : CellView) → IsPaired f → Bounded m f → x.wide ≡ false
    → x.continuation ≡ false → IsPaired (extended m f x)
IsPaired-extended m f x p past w c = record {
  first = grind (arith, nat_tests, p.first);
  next = λ k. grind (arith, nat_tests, p.next k, past (k + 1));
  blank = λ k h. grind (arith, nat_tests, p.blank k);
}
