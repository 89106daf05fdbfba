-- If a screen is sure, no cell asks for an emoji.
use Rattle.std.proofs.Common.{◌≡◌, ◌∙◌, ℕ, ◌<◌, ◌≤◌, ◌==◌, Bool, true, false, length, arith, ap, sym}
use mathlib.Core.Logic.{⊎_elim}
use Rattle.std.proofs.lemmas.Bool.{cases_lt, eq-eqb, false≢true}
use Rattle.std.proofs.lemmas.List.Folds.{list_any_at}
use Rattle.vt100_cells.specs.Cell.{cell_eq}
use Rattle.vt100_cells.specs.CellEq.{cell_eq-true}
use Rattle.terminal_model.specs.Term.{Size, Shown}
use Rattle.termrelay.specs.Answers.{all_below}
use Rattle.termrelay.specs.Frame.{any_below, asks_for_emoji, is_unsure, EachSureIsPlain}
use Rattle.termrelay.proofs.BelowLemmas.{any-found, any-alike}
use Rattle.termrelay.proofs.SameLemmas.{all-below}

none-below : (n : ℕ) (p : ℕ → Bool) → any_below n p ≡ false → (m : ℕ) → m < n → p m ≡ false
none-below n p h m lt = grind (arith, any-found n m p lt)

-- a row that a sure screen has too is sure
pub row-sure : (z : Size) (s t : Shown) → is_unsure z s ≡ false → (r : ℕ) → r < z.rows
    → all_below z.cols (λ k. cell_eq (s.cell r k) (t.cell r k)) ≡ true
    → any_below z.cols (λ k. asks_for_emoji (t.cell r k)) ≡ false
unfolding is_unsure
row-sure z s t h r low same =
    any-alike z.cols (λ k. asks_for_emoji (t.cell r k)) (λ k. asks_for_emoji (s.cell r k))
    (λ k left. ap asks_for_emoji (sym (cell_eq-true (s.cell r k) (t.cell r k) (all-below z.cols _ same k left))))
    ∙ none-below z.rows _ h r low

pub sure-plain : EachSureIsPlain
unfolding is_unsure
sure-plain z s i h r k c =
    ⊎_elim
    (λ (low : r < z.rows). ⊎_elim
    (λ (left : k < z.cols).
    false≢true (sym (none-below z.cols (λ j. asks_for_emoji (s.cell r j)) (none-below z.rows _ h r low) k left)
    ∙ list_any_at (λ x. x == 0xFE0F) (s.cell r k).text c.0 0xFE0F c.1 (eq-eqb _ 0xFE0F c.2)))
    (λ (right : z.cols ≤ k). omega (arith, c.1, ap (λ x. length x.text) (i.beyond r k right)))
    (cases_lt k z.cols))
    (λ (high : z.rows ≤ r). omega (arith, c.1, ap (λ x. length x.text) (i.below r k high)))
    (cases_lt r z.rows)
