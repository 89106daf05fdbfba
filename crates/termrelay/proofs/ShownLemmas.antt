-- What a screen's getters give, and the comparison of two screens by them.
use Rattle.std.proofs.Common.{◌≡◌, ℕ, ◌<◌, Bool, true, false, ◌==◌, List, [], ◌∷◌, length, length-append}
use Rattle.std.proofs.Common.{arith, refl, encode_utf8, encode_utf8_all}
use Rattle.std.specs.List.{list_any}
use Rattle.std.proofs.lemmas.Bool.Decides.{nat_tests}
use Rattle.std.proofs.lemmas.Str.{length-encode}
use Rattle.vt100_cells.specs.Cell.{bool_eq, cell_eq}
use Rattle.vt100_cells.specs.CellEq.{attrs_eq-refl, cell_eq-refl}
use Rattle.terminal_model.specs.Term.{Modes}
use Rattle.termrelay.specs.Answers.{all_below, modes_eq, same_shown, EachOneIsSame}
use Rattle.termrelay.proofs.BelowLemmas.{all-true}

-- ---- texts

-- U+FE0F takes three bytes
pub short-asks_not : (xs : List ℕ) → length (encode_utf8_all xs) < 3 → list_any (λ c. c == 0xFE0F) xs ≡ false
short-asks_not [] h = refl
short-asks_not (x ∷ xs) h =
    grind (arith, nat_tests, length-append (encode_utf8 x) (encode_utf8_all xs), length-encode x, short-asks_not xs)

-- ---- what is shown, and itself

bool-refl : (b : Bool) → bool_eq b b ≡ true
bool-refl b = grind arith

modes-refl : (m : Modes) → modes_eq m m ≡ true
modes-refl m = grind (arith, nat_tests)

pub one-same : EachOneIsSame
unfolding same_shown
one-same z s =
    let cells = all-true z.rows (λ r. all_below z.cols (λ k. cell_eq (s.cell r k) (s.cell r k)))
    (λ r _. all-true z.cols (λ k. cell_eq (s.cell r k) (s.cell r k)) (λ k _. cell_eq-refl (s.cell r k))) in
    let wraps = all-true z.rows (λ r. bool_eq (s.wrapped r) (s.wrapped r)) (λ r _. bool-refl (s.wrapped r)) in
    rw (cells, wraps, bool-refl s.hidden, attrs_eq-refl s.attrs, modes-refl s.modes) (grind (arith, nat_tests))
