-- Columns in which two lines are the same.
use Rattle.std.proofs.Common.{◌≡◌, ℕ, ◌+◌, List, length, sym, ap, ◌∙◌, arith, inl, inr}
use Rattle.std.proofs.lemmas.Bool.{cases_lt}
use Rattle.vt100_cells.specs.Cell.{CellView}
use Rattle.vt100_cells.specs.Cells.{AreSame, cell_at}
use Rattle.vt100_cells.proofs.ListLemmas.{by_position_is}

-- one column more
pub same-more : (f g : ℕ → CellView) (from n : ℕ) → AreSame f g from n → f n ≡ g n → AreSame f g from (n + 1)
same-more f g from n h e k a b =
    elim (cases_lt k n) [
      | inl before ↦ h k a before
      | inr after ↦ (let last : n ≡ k = omega (arith, b, after) in
          ap f (sym last) ∙ e ∙ ap g last)
    ]

-- lines of one length that are the same in all columns
pub same-lines : (xs ys : List CellView) (n : ℕ) → length xs ≡ n → length ys ≡ n
    → AreSame (cell_at xs) (cell_at ys) 0 n → xs ≡ ys
same-lines xs ys n h k same =
    by_position_is n (cell_at ys) xs h (λ i l. same i (omega arith) l)
    ∙ sym (by_position_is n (cell_at ys) ys k (λ i l. λ _. cell_at ys i))
