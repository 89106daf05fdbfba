-- The cells that a screen gives for a row, and the comparison of two rows.
use Rattle.std.proofs.Common.{◌≡◌, ◌∙◌, ℕ, zero, suc, ◌<◌, ◌≤◌, ◌==◌, false, Option, Some, None, List}
use Rattle.std.proofs.Common.{length, take, sym, ap, arith, refl, true, ◌&&◌, nat_lt}
use Rattle.std.specs.Option.{MatchOption}
use mathlib.Core.Logic.{⊎_elim}
use Rattle.std.specs.Prelude.{slice_get}
use Rattle.std.specs.Option.{option_map}
use Rattle.std.proofs.lemmas.Bool.{cases_lt, lt-ltb, cond_both}
use Rattle.std.proofs.lemmas.Bool.Decides.{nat_tests}
use Rattle.std.proofs.lemmas.List.{get_or-take}
use Rattle.std.proofs.lemmas.Option.{slice_get_within, slice_get-get_or, same_Some}
use Rattle.vt100_cells.specs.Cell.{CellView, default_cell, cell_eq}
use Rattle.vt100_cells.specs.CellEq.{cell_eq-of_same}
use Rattle.vt100_cells.specs.Cells.{AreSame, cell_at}
use Rattle.vt100_rows.specs.Row.{RowView, IsBlankFrom}
use Rattle.vt100_core.specs.Grid.{visible_at, visible_row_at, cell_in}
use Rattle.screen_model.specs.State.{State, IsState}
use Rattle.screen_model.specs.Shown.{shown_state}
use Rattle.screen_model.proofs.ShownLemmas.{each-cell_is_reported}
use Rattle.termrelay.specs.Answers.{all_below}
use Rattle.termrelay.proofs.BelowLemmas.{all-missed, all-true, all-alike, all-behind}

-- ---- a row's cells

cells-in : (o : Option RowView) (cells : List CellView) (c : ℕ) → option_map (λ v. v.cells) o ≡ Some cells
    → cell_in o c ≡ slice_get cells c
cells-in None cells c e = absurd cc
cells-in (Some v) cells c e = ap (λ xs. slice_get xs c) (same_Some v.cells cells e)

reaches : (n : ℕ) (cells : List CellView) (f : ℕ → CellView) → ((c : ℕ) → c < n → slice_get cells c ≡ Some (f c))
    → n ≤ length cells
reaches zero cells f h = omega arith
reaches (suc n) cells f h = omega (arith, slice_get_within cells n (f n) (h n (omega arith)))

-- the list has the cells that the screen shows in the row, and more if the row is wider
pub record AreCellsOf (s : State) (r : ℕ) (cells : List CellView) : Type 0 where
  pub wide : s.shown.width ≤ length cells
  pub same : AreSame (cell_at cells) ((shown_state s).cell r) 0 s.shown.width

-- the cells that a screen gives for one of its rows
pub cells-reported : (s : State) (r : ℕ) → IsState s → r < s.shown.height → (cells : List CellView)
    → option_map (λ v. v.cells) (visible_row_at s.shown r) ≡ Some cells → AreCellsOf s r cells
cells-reported s r i inside cells e =
    let reported : (c : ℕ) → c < s.shown.width → slice_get cells c ≡ Some ((shown_state s).cell r c) =
    λ c h. sym (cells-in (visible_row_at s.shown r) cells c e) ∙ each-cell_is_reported s i r c inside h in
    let wide = reaches s.shown.width cells ((shown_state s).cell r) reported in
    record {
      wide = wide;
      same = λ k _ h. same_Some (cell_at cells k) ((shown_state s).cell r k)
          (sym (slice_get-get_or cells k default_cell (omega (arith, h, wide))) ∙ reported k h);
    }

-- the cells that are left of a row that is cut at the width
pub cells-cut : (n width : ℕ) (cells : List CellView) (f : ℕ → CellView) → n ≡ width → AreSame (cell_at cells) f 0 width
    → AreSame (cell_at (take n cells)) f 0 width
cells-cut n width cells f e same k low h = get_or-take n cells k default_cell (omega (arith, h, e)) ∙ same k low h

-- the columns to the right of which a row of the screen shows nothing
pub filled-shown : (s : State) (r n : ℕ) → IsState s → r < s.shown.height
    → MatchOption (visible_row_at s.shown r) (n ≡ 0) (λ v. IsBlankFrom v.cells n) → (k : ℕ) → n ≤ k
    → (shown_state s).cell r k ≡ default_cell
filled-shown s r n i inside h k le =
    let drawn = i.shown.sheet.count i.drawn in
    let there : nat_lt r (length s.shown.rows) ≡ true = lt-ltb r (length s.shown.rows) (omega (arith, inside, drawn)) in
    let blank : IsBlankFrom (visible_at s.shown r).cells n = rw there at h in
    cond_both (nat_lt r s.shown.height && nat_lt k s.shown.width) (cell_at (visible_at s.shown r).cells k) default_cell
    (λ x. x ≡ default_cell) (λ _. blank k le) (λ _. refl)

-- ---- two rows

-- two rows of n cells that are the same up to m, where they differ unless they end there
pub rows-compared : (n m : ℕ) (f g : ℕ → CellView) → m ≤ n → AreSame f g 0 m
    → (m < n → cell_eq (f m) (g m) ≡ false) → (m == n) ≡ all_below n (λ k. cell_eq (f k) (g k))
rows-compared n m f g within same differs =
    ⊎_elim
    (λ (less : m < n). grind (arith, nat_tests, all-missed n m (λ k. cell_eq (f k) (g k)) less (differs less)))
    (λ (all : n ≤ m). grind (
      arith,
      nat_tests,
      all-true n (λ k. cell_eq (f k) (g k))
          (λ k lt. cell_eq-of_same (f k) (g k) (same k (omega arith) (omega arith))),
    ))
    (cases_lt m n)

-- rows of n cells that are the same from e on have been compared up to there
pub rows-compared_to : (n e m : ℕ) (f g : ℕ → CellView) → e ≤ n → AreSame f g e n → m ≤ e → AreSame f g 0 m
    → (m < e → cell_eq (f m) (g m) ≡ false) → (m == e) ≡ all_below n (λ k. cell_eq (f k) (g k))
rows-compared_to n e m f g short behind within same differs =
    rows-compared e m f g within same differs
    ∙ all-behind e n (λ k. cell_eq (f k) (g k)) short (λ k h lt. cell_eq-of_same (f k) (g k) (behind k h lt))

-- what is asked of two rows of n cells is asked of the rows that they are
pub rows-alike : (m n : ℕ) (f g h k : ℕ → CellView) → m ≡ n → AreSame f h 0 n → AreSame g k 0 n
    → all_below m (λ c. cell_eq (f c) (g c)) ≡ all_below n (λ c. cell_eq (h c) (k c))
rows-alike m n f g h k e one other =
    rw e (all-alike n (λ c. cell_eq (f c) (g c)) (λ c. cell_eq (h c) (k c))
    (λ c lt i. cell_eq (one c (omega arith) lt i) (other c (omega arith) lt i)))
