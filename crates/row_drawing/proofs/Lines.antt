-- The line of a terminal while a row is drawn on it, from the left.
use Rattle.std.proofs.Common.{◌≡◌, ℕ, ◌+◌, ◌<◌, ◌≤◌, true, false, refl, arith, sym, ap, ◌∙◌}
use Rattle.std.proofs.lemmas.Bool.Decides.{nat_tests}
use Rattle.std.proofs.lemmas.Bool.{both_ways}
use mathlib.Core.Path.{fun_ext}
use Rattle.unicode_width.specs.Width.{char_width}
use Rattle.vt100_forms.specs.declared.attrs.Attrs.{Attrs}
use Rattle.vt100_cells.specs.Cell.{CellView, empty_cell, continuation_cell, cell_of}
use Rattle.vt100_cells.proofs.JoinedCells.{whole_if_wide}
use Rattle.vt100_cells.specs.Line.{IsPaired, Bounded, put, wiped}

-- Below n the line is the new one, and after n the old one. At n it is the old one too, but a second half there may
-- have become another cell, which is no half of a wide one.
pub record Line (old new : ℕ → CellView) (n : ℕ) (f : ℕ → CellView) : Type 0 where
  pub written : (k : ℕ) → k < n → f k ≡ new k
  pub rest : (k : ℕ) → n < k → f k ≡ old k
  pub here : (old n).continuation ≡ false → f n ≡ old n
  pub broken : (old n).continuation ≡ true → ((f n).wide ≡ false) × ((f n).continuation ≡ false)

-- ---- halves

-- the earlier row has a wide cell wherever the terminal has one
pub line-wide_is : (old new : ℕ → CellView) (n : ℕ) (f : ℕ → CellView) → IsPaired old → Line old new n f
    → (f n).wide ≡ (old n).wide
line-wide_is old new n f o l = grind (arith, nat_tests, l.here, l.broken, o.blank n)

-- ---- a cell is printed

pub space_narrow : (a : Attrs) → (cell_of 32 a).wide ≡ false
unfolding char_width
space_narrow a = refl

pub line-narrow : (old new : ℕ → CellView) (n : ℕ) (f : ℕ → CellView) (a : Attrs) → IsPaired old → IsPaired new
    → Line old new n f → (new n).wide ≡ false → (new n).continuation ≡ false
    → Line old new (n + 1) (put f n (new n) a)
line-narrow old new n f a o w l narrow single =
    let was_wide = line-wide_is old new n f o l in
    let space = space_narrow a in
    record {
      written = λ k h. grind (arith, nat_tests, l.written k, w.next k);
      rest = λ k h. grind (arith, nat_tests, l.rest k);
      here = λ h. grind (arith, nat_tests, was_wide, o.next n, l.rest (n + 1));
      broken = λ h. (
        grind (arith, nat_tests, was_wide, o.next n, space),
        grind (arith, nat_tests, was_wide, o.next n),
      );
    }

sum : (n : ℕ) → n + 1 + 1 ≡ n + 2
sum n = omega arith

pub line-wide : (old new : ℕ → CellView) (n : ℕ) (f : ℕ → CellView) (a : Attrs) → IsPaired old → IsPaired new
    → Line old new n f → (new n).wide ≡ true → Line old new (n + 2) (put f n (new n) a)
line-wide old new n f a o w l wide =
    let single = whole_if_wide new n w wide in
    let was_wide : (f (n + 1)).wide ≡ (old (n + 2)).continuation = ap (λ (x : CellView). x.wide)
    (l.rest (n + 1) (omega arith)) ∙ sym (o.next (n + 1)) ∙ ap (λ i. (old i).continuation) (sum n) in
    record {
      written = λ k h. grind (arith, nat_tests, l.written k, w.next k, w.next n, w.blank (n + 1));
      rest = λ k h. grind (arith, nat_tests, l.rest k);
      here = λ h. grind (arith, nat_tests, was_wide, l.rest (n + 2));
      broken = λ h. (grind (arith, nat_tests, was_wide), grind (arith, nat_tests, was_wide));
    }

-- ---- columns are erased

pub line-erased : (old new : ℕ → CellView) (s e : ℕ) (a : Attrs) (f : ℕ → CellView) → IsPaired old → IsPaired new
    → Line old new s f → s < e → ((k : ℕ) → s ≤ k → k < e → new k ≡ empty_cell a) → Line old new e (wiped f s e a)
line-erased old new s e a f o w l some empty =
    let single : (new s).continuation ≡ false = ap (λ (x : CellView). x.continuation) (empty s (omega arith) some) in
    record {
      written = λ k h. grind (arith, nat_tests, l.written k, w.next k, empty k);
      rest = λ k h. grind (arith, nat_tests, l.rest k);
      here = λ h. grind (arith, nat_tests, l.rest e some);
      broken = λ h. (grind (arith, nat_tests, l.rest e some), grind (arith, nat_tests, l.rest e some));
    }

-- a space was printed in the first column
pub line-spaced : (old new : ℕ → CellView) (e : ℕ) (b a : Attrs) (f : ℕ → CellView) → IsPaired old → Line old new 0 f
    → 0 < e → ((k : ℕ) → 0 ≤ k → k < e → new k ≡ empty_cell a)
    → Line old new e (wiped (put f 0 (cell_of 32 b) b) 0 e a)
line-spaced old new e b a f o l some empty =
    let first_wide : (f 0).wide ≡ (old 1).continuation = line-wide_is old new 0 f o l ∙ sym (o.next 0) in
    let space = space_narrow b in
    record {
      written = λ k h. grind (arith, nat_tests, empty k);
      rest = λ k h. grind (arith, nat_tests, l.rest k, space);
      here = λ h. grind (arith, nat_tests, l.rest e some, first_wide, space);
      broken = λ h. (
        grind (arith, nat_tests, l.rest e some, first_wide, space),
        grind (arith, nat_tests, l.rest e some, first_wide, space),
      );
    }

-- what erasing cuts from a row with a space in its first column, it cuts from the earlier row too
pub spaced-half : (old new : ℕ → CellView) (e : ℕ) (b : Attrs) (f : ℕ → CellView) → IsPaired old → Line old new 0 f
    → 0 < e → (put f 0 (cell_of 32 b) b e).continuation ≡ true → (old e).continuation ≡ true
spaced-half old new e b f o l some h =
    let space = space_narrow b in grind (arith, nat_tests, l.rest e some, space)

-- ---- cells that stay

pub line-same : (old new : ℕ → CellView) (n : ℕ) (f : ℕ → CellView) → IsPaired old → Line old new n f → old n ≡ new n
    → (new n).wide ≡ false → (new n).continuation ≡ false → Line old new (n + 1) f
line-same old new n f o l same narrow single =
    let at_n : (k : ℕ) → k ≡ n → f k ≡ new k = λ k is. ap f is
    ∙ l.here (ap (λ (x : CellView). x.continuation) same ∙ single) ∙ same ∙ ap new (sym is) in
    record {
      written = λ k h. grind (arith, nat_tests, l.written k, at_n k);
      rest = λ k h. l.rest k (omega arith);
      here = λ h. l.rest (n + 1) (omega arith);
      broken = λ h. absurd (both_ways (old n).wide (ap (λ (x : CellView). x.wide) same ∙ narrow) (sym (o.next n) ∙ h));
    }

pub line-same_wide : (old new : ℕ → CellView) (n : ℕ) (f : ℕ → CellView) → IsPaired old → IsPaired new
    → Line old new n f → old n ≡ new n → (new n).wide ≡ true → Line old new (n + 2) f
line-same_wide old new n f o w l same wide =
    let was_wide : (old n).wide ≡ true = ap (λ (x : CellView). x.wide) same ∙ wide in
    let second : old (n + 1) ≡ continuation_cell = o.blank (n + 1) (o.next n ∙ was_wide) in
    let at_n : (k : ℕ) → k ≡ n → f k ≡ new k = λ k is. ap f is ∙ l.here (whole_if_wide old n o was_wide) ∙ same
    ∙ ap new (sym is) in
    let at_next : (k : ℕ) → k ≡ n + 1 → f k ≡ new k = λ k is. ap f is ∙ l.rest (n + 1) (omega arith) ∙ second
    ∙ sym (w.blank (n + 1) (w.next n ∙ wide)) ∙ ap new (sym is) in
    record {
      written = λ k h. grind (arith, nat_tests, l.written k, at_n k, at_next k);
      rest = λ k h. l.rest k (omega arith);
      here = λ h. l.rest (n + 2) (omega arith);
      broken = λ h. absurd (both_ways (old (n + 1)).wide (ap (λ (x : CellView). x.wide) second) (sym (o.next (n + 1))
          ∙ ap (λ i. (old i).continuation) (sum n) ∙ h));
    }

-- ---- the first column, and the whole row

pub line-begun : (old new : ℕ → CellView) → (old 0).continuation ≡ false → Line old new 0 old
line-begun old new single = record {
  written = λ k h. absurd (omega arith);
  rest = λ k h. refl;
  here = λ h. refl;
  broken = λ h. absurd (both_ways (old 0).continuation single h);
}

pub line-whole : (old new : ℕ → CellView) (n : ℕ) (f : ℕ → CellView) → Line old new n f → Bounded n old → Bounded n new
    → f ≡ new
line-whole old new n f l b c = fun_ext (λ k. grind (arith, nat_tests, l.written k, l.rest k, l.here, b k, c k))

-- ---- the last cell

-- the line's own cell, printed once more
pub line-reprinted : (f : ℕ → CellView) (n : ℕ) (a : Attrs) → IsPaired f → (f n).continuation ≡ false
    → put f n (f n) a ≡ f
line-reprinted f n a p single =
    fun_ext (λ k. grind (arith, nat_tests, p.next k, p.next n, p.blank k, p.next (n + 1)))

-- an empty cell, erased
pub line-erased_same : (f : ℕ → CellView) (n : ℕ) (a : Attrs) → IsPaired f → f n ≡ empty_cell a
    → wiped f n (n + 1) a ≡ f
line-erased_same f n a p e =
    let single : (f n).continuation ≡ false = ap (λ (x : CellView). x.continuation) e in
    let narrow : (f (n + 1)).continuation ≡ false = p.next n ∙ ap (λ (x : CellView). x.wide) e in
    let is : (k : ℕ) → k ≡ n → f k ≡ empty_cell a = λ k here. ap f here ∙ e in
    fun_ext (λ k. grind (arith, nat_tests, single, narrow, p.next k, is k))

-- a cell erased and printed
pub line-restored : (f : ℕ → CellView) (n : ℕ) (b a : Attrs) → IsPaired f → (f n).continuation ≡ false
    → put (wiped f n (n + 1) b) n (f n) a ≡ f
line-restored f n b a p single =
    fun_ext (λ k. grind (arith, nat_tests, p.next k, p.next n, p.blank k, p.next (n + 1), p.blank (n + 1)))
