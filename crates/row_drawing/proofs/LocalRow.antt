-- The cells that a row's difference may touch.
use Rattle.std.proofs.Common.{◌≡◌, ℕ, ◌+◌, ◌-◌, ◌<◌, ◌≤◌, ◌==◌, Bool, true, false, ◌&&◌, ◌||◌}
use Rattle.std.proofs.Common.{nat_lt, nat_le, refl, arith, sym, ap, ◌∙◌, inl, inr, ◌⊎◌, subst}
use Rattle.std.proofs.lemmas.Bool.Decides.{nat_tests}
use Rattle.std.proofs.lemmas.Bool.{both_ways, and_parts, eqb-true}
use Rattle.vt100_forms.specs.declared.attrs.Attrs.{Attrs}
use Rattle.vt100_cells.specs.Cell.{CellView, empty_cell, cell_of, is_filled}
use Rattle.vt100_cells.specs.Line.{IsPaired}
use Rattle.vt100_cells.specs.CellEq.{cell_eq-true}
use Rattle.terminal_model.specs.Touch.{put_touches, wipe_touches}
use Rattle.row_drawing.specs.RowWriter.{is_same}
use Rattle.row_drawing.specs.Scene.{Scene, IsScene}
use Rattle.row_drawing.proofs.Lines.{Line, line-wide_is, space_narrow}

-- ---- what may be touched

-- C are the columns of the row where something has to be done: those that differ, those that become empty if some
-- column differs, the first if the row above needs its flag, and the last if this row does. S are the cells that may be
-- touched: these, with their other halves.
pub record IsRoom (s : Scene) (C : ℕ → Type 0) (S : ℕ → ℕ → Type 0) : Type 0 where
  pub close : (k : ℕ) → k < s.row_change.cols → C k → S s.row_change.row k
  pub second : (k : ℕ) → k + 1 < s.row_change.cols → C k → ((s.row_change.old k).wide || (s.row_change.new k).wide)
      ≡ true
      → S s.row_change.row (k + 1)
  pub first : (k : ℕ) → k + 1 < s.row_change.cols → C (k + 1)
      → ((s.row_change.old (k + 1)).continuation || (s.row_change.new (k + 1)).continuation) ≡ true
      → S s.row_change.row k
  pub differs : (k : ℕ) → k < s.row_change.cols → is_same s.row_change k ≡ false → C k
  pub empty : (c k : ℕ) → c < s.row_change.cols → is_same s.row_change c ≡ false → k < s.row_change.cols
      → is_filled (s.row_change.new k) ≡ false → C k

-- any cell may be touched
pub any-room : (s : Scene) → IsRoom s (λ _. Unit {0}) (λ _ _. Unit {0})
any-room s = record {
  close = λ _ _ _. tt;
  second = λ _ _ _ _. tt;
  first = λ _ _ _ _. tt;
  differs = λ _ _ _. tt;
  empty = λ _ _ _ _ _ _. tt;
}

pub or-four : (a b c d : Bool) → (a || (b || (c || d))) ≡ true
    → (a ≡ true) ⊎ ((b ≡ true) ⊎ ((c ≡ true) ⊎ (d ≡ true)))
or-four true b c d h = inl refl
or-four false true c d h = inr (inl refl)
or-four false false true d h = inr (inr (inl refl))
or-four false false false d h = inr (inr (inr h))

pub or-split : (a b : Bool) → (a || b) ≡ true → (a ≡ true) ⊎ (b ≡ true)
or-split true b h = inl refl
or-split false b h = inr h

-- where the earlier row has a wide cell
wide-there : (s : Scene) → IsScene s → (n : ℕ) (f : ℕ → CellView) → Line s.row_change.old s.row_change.new n f
    → (f n).wide ≡ true → (s.row_change.old n).wide ≡ true
wide-there s h n f l wide = sym (line-wide_is s.row_change.old s.row_change.new n f h.old.paired l) ∙ wide

-- the column after a cell
half-of : (f : ℕ → CellView) (k m : ℕ) (b : Bool) → IsPaired f → k ≡ m + 1 → (f m).wide ≡ b → (f k).continuation ≡ b
half-of f k m b p e w = ap (λ i. (f i).continuation) e ∙ p.next m ∙ w

-- a cell that differs is put at n
pub put-room : (s : Scene) (C : ℕ → Type 0) (S : ℕ → ℕ → Type 0) → IsScene s → IsRoom s C S → (n : ℕ) (f : ℕ → CellView)
    → Line s.row_change.old s.row_change.new n f → (s.row_change.new n).continuation ≡ false → n < s.row_change.cols
    → C n → (k : ℕ)
    → k < s.row_change.cols → put_touches f n (s.row_change.new n) k ≡ true → S s.row_change.row k
put-room s C S h o n f l single inside here k low touched =
    let j = s.row_change in
    let x = j.new n in
    elim (or-four (k == n) ((k == (n + 1)) && (x.wide || (f n).wide)) (((k + 1) == n) && (f k).wide)
    ((k == (n + 2)) && (x.wide && (f (n + 1)).wide)) touched) [
      | inl at_n ↦ o.close k low (subst C (sym (eqb-true k n at_n)) here)
      | inr (inl next) ↦ grind (arith, nat_tests, o.second n, wide-there s h n f l)
      | inr (inr (inl left)) ↦ grind (arith, nat_tests, l.written k, h.new.paired.next k)
      | inr (inr (inr third)) ↦
          (let both = and_parts (k == (n + 2)) _ third in
          let is = eqb-true k (n + 2) both.0 in
          let wides = and_parts x.wide (f (n + 1)).wide both.1 in
          let was = half-of j.old k (n + 1) true h.old.paired (omega (arith, is))
          (ap (λ (y : CellView). y.wide) (sym (l.rest (n + 1) (omega arith))) ∙ wides.1) in
          let single_there = half-of j.new k (n + 1) false h.new.paired (omega (arith, is))
          (ap (λ (y : CellView). y.wide) (h.new.paired.blank (n + 1) (h.new.paired.next n ∙ wides.0))) in
          let other : is_same j k ≡ false = grind (arith, nat_tests, cell_eq-true (j.new k) (j.old k)) in
          o.close k low (o.differs k low other))
    ]

-- columns that are to be empty are erased
pub wipe-room : (s : Scene) (C : ℕ → Type 0) (S : ℕ → ℕ → Type 0) → IsScene s → IsRoom s C S → (a b : ℕ)
    (f : ℕ → CellView) (x : Attrs)
    → ((k : ℕ) → k < a → f k ≡ s.row_change.new k)
    → ((f b).continuation ≡ true → (s.row_change.old b).continuation ≡ true)
    → a < b → b ≤ s.row_change.cols → ((k : ℕ) → a ≤ k → k < b → s.row_change.new k ≡ empty_cell x)
    → ((k : ℕ) → a ≤ k → k < b → C k) → (k : ℕ) → k < s.row_change.cols → wipe_touches f a b k ≡ true
    → S s.row_change.row k
wipe-room s C S h o a b f x written half some up_to blank close k low touched =
    let j = s.row_change in
    let last : b - 1 + 1 ≡ b = omega (arith, some) in
    elim (or-split (nat_le a k && nat_lt k b) _ touched) [
      | inl between ↦ grind (arith, nat_tests, o.close k low, close k)
      | inr edges ↦ elim (or-split (((k + 1) == a) && (f k).wide) ((k == b) && (f k).continuation)
          (and_parts (nat_lt a b) _ edges).1) [
            | inl left ↦ grind (arith, nat_tests, blank a, h.new.paired.next k, written k)
            | inr right ↦ grind (
              arith,
              nat_tests,
              half,
              last,
              h.old.paired.next (b - 1),
              o.second (b - 1),
              close
                  (b - 1),
            )
          ]
    ]

-- a wide cell touches what a narrow one does
pub touches-wider : (f : ℕ → CellView) (n : ℕ) (x y : CellView) (k : ℕ) → (y.wide ≡ true → x.wide ≡ true)
    → put_touches f n y k ≡ true → put_touches f n x k ≡ true
touches-wider f n x y k wider h = grind (arith, nat_tests, wider)

-- a space is printed in the first column
pub space-room : (s : Scene) (C : ℕ → Type 0) (S : ℕ → ℕ → Type 0) → IsScene s → IsRoom s C S → (f : ℕ → CellView)
    (a : Attrs) → Line s.row_change.old s.row_change.new 0 f → C 0 → (k : ℕ) → k < s.row_change.cols
    → put_touches f 0 (cell_of 32 a) k ≡ true → S s.row_change.row k
space-room s C S h o f a l here k low touched =
    put-room s C S h o 0 f l h.new.paired.first h.some_col here k low
    (touches-wider f 0 (s.row_change.new 0) (cell_of 32 a) k
    (λ wide. absurd (both_ways (cell_of 32 a).wide (space_narrow a) wide)) touched)
