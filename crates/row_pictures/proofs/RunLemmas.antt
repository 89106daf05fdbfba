-- Runs of cells that are alike.
use Rattle.std.proofs.Common.{◌≡◌, ◌⊎◌, ◌<◌, ◌≤◌, ◌+◌, ◌++◌, ℕ, List, [], Option, true, false, inl, inr, arith, subst}
use Rattle.std.proofs.Common.{sym}
use Rattle.std.proofs.Common.{append-nil}
use Rattle.std.proofs.Math.Nat.{eq-or-lt_of_le}
use Rattle.picture_page.proofs.PageLemmas.{joined_more}
use Rattle.vt100_cells.specs.Cell.{CellView}
use Rattle.row_pictures.specs.Drawn.{ink_of}
use Rattle.row_pictures.specs.Paint.{cell_in, style_in}
use Rattle.row_pictures.specs.Runs.{AddsRuns, AreAlike, AreInPlace, KeepsWidth}
use Rattle.row_pictures.specs.Runs.AreRuns.{none, run}

-- the cell at its start alone
pub alike_begins : (cells : List CellView) (cursor : Option ℕ) (start end : ℕ) → end ≡ start + 1
    → AreAlike cells cursor start end
alike_begins cells cursor start end is = λ col more below. absurd (omega arith)

-- a cell more that is as the first one
pub alike_goes_on : (cells : List CellView) (cursor : Option ℕ) (start end : ℕ) → AreAlike cells cursor start end
    → (cell_in cells end).wide ≡ false → style_in cells cursor end ≡ style_in cells cursor start
    → ink_of (cell_in cells end) ≡ ink_of (cell_in cells start) → AreAlike cells cursor start (end + 1)
alike_goes_on cells cursor start end first narrow style ink = λ col more below.
    let at_most : col ≤ end = omega arith in
    elim (eq-or-lt_of_le at_most) [
      | inl is ↦ inl (
        subst (λ (n : ℕ). (cell_in cells n).wide ≡ false) (sym is) narrow,
        subst (λ (n : ℕ). style_in cells cursor n ≡ style_in cells cursor start) (sym is) style,
        subst (λ (n : ℕ). ink_of (cell_in cells n) ≡ ink_of (cell_in cells start)) (sym is) ink,
      )
      | inr lt ↦ first col more lt
    ]

-- a cell more that is the second column of the first
pub alike_wide : (cells : List CellView) (cursor : Option ℕ) (start end : ℕ) → end ≡ start + 1 + 1
    → (cell_in cells start).wide ≡ true → (cell_in cells (start + 1)).continuation ≡ true
    → AreAlike cells cursor start end
alike_wide cells cursor start end is wide second = λ col more below.
    let next : col ≡ start + 1 = omega arith in
    inr (wide, subst (λ (n : ℕ). (cell_in cells n).continuation ≡ true) (sym next) second, next)

-- fewer of the cells
pub alike_shorter : (cells : List CellView) (cursor : Option ℕ) (start end longer : ℕ) → end ≤ longer
    → AreAlike cells cursor start longer → AreAlike cells cursor start end
alike_shorter cells cursor start end longer le all = λ col more below. all col more (omega arith)

-- ---- cells that stay in their columns

-- the cell at its start alone
pub in_place_begins : (cells : List CellView) (start end : ℕ) → end ≡ start + 1 → AreInPlace cells start end
in_place_begins cells start end is = λ col more below. absurd (omega arith)

-- a cell more that does
pub in_place_goes_on : (cells : List CellView) (start end : ℕ) → AreInPlace cells start end
    → (KeepsWidth (cell_in cells start) × KeepsWidth (cell_in cells end))
    ⊎ ((cell_in cells end).continuation ≡ true)
    → AreInPlace cells start (end + 1)
in_place_goes_on cells start end first next = λ col more below.
    let at_most : col ≤ end = omega arith in
    elim (eq-or-lt_of_le at_most) [
      | inl is ↦ subst (λ (n : ℕ). (KeepsWidth (cell_in cells start) × KeepsWidth (cell_in cells n))
          ⊎ ((cell_in cells n).continuation ≡ true)) (sym is) next
      | inr lt ↦ first col more lt
    ]

-- ---- runs, one after another

pub no_runs : (IsPicture : ℕ → ℕ → List ℕ → Type 0) (a : List ℕ) → AddsRuns IsPicture 0 a a
no_runs IsPicture a = record { more = []; joined = sym (append-nil a); runs = none }

pub one_run_more : (IsPicture : ℕ → ℕ → List ℕ → Type 0) (a b c more : List ℕ) (start end : ℕ)
    → AddsRuns IsPicture start a b → start < end → IsPicture start end more → c ≡ b ++ more
    → AddsRuns IsPicture end a c
one_run_more IsPicture a b c more start end first lt is joined = record {
  more = first.more ++ more;
  joined = joined_more a b c first.more more first.joined joined;
  runs = run end more first.runs lt is;
}
