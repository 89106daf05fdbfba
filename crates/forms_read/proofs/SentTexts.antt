-- The characters of cells are printed.
use Rattle.std.proofs.Common.{◌≡◌, ℕ, suc, true, false, ◌||◌, nat_lt, List, [], ◌∷◌}
use Rattle.std.proofs.Common.{None, sym, refl, ◌∙◌, arith}
use Rattle.std.specs.Prelude.{All}
use Rattle.std.specs.Char.{IsScalar}
use Rattle.std.specs.Int.{is_in_range}
use Rattle.std.specs.List.{AllByRecursion}
use Rattle.std.proofs.lemmas.Bool.{false≢true, false_from_ne_true}
use Rattle.std.proofs.lemmas.Bool.Decides.{nat_tests}
use Rattle.unicode_width.specs.Width.{char_width}
use Rattle.vt100_cells.specs.Cell.{columns_of, is_undrawable, IsCellText}
use Rattle.vt100_forms.specs.Form.{Form, Text}
use Rattle.terminal_model.specs.FormText.{IsSentForm}
use Rattle.terminal_model.proofs.PrintedCells.{drawn_zero}
use Rattle.terminal_model.proofs.FormTexts.{all-each}
use Rattle.forms_read.specs.Laws.{IsPrinted, IsReadable, EachSentTextIsPrinted, EachSentFormIsReadable}

control_width : (c : ℕ) → (nat_lt c 0x20 || is_in_range 0x80 0x9F c) ≡ true → char_width false c ≡ None
unfolding char_width
control_width c h = grind (arith, nat_tests)

control_small : (c : ℕ) → (nat_lt c 0x20 || is_in_range 0x80 0x9F c) ≡ true → nat_lt c 0x100 ≡ true
control_small c h = grind (arith, nat_tests)

drawn_printed : (c : ℕ) → is_undrawable c ≡ false → (nat_lt c 0x20 || is_in_range 0x80 0x9F c) ≡ false
drawn_printed c h = false_from_ne_true (nat_lt c 0x20 || is_in_range 0x80 0x9F c) (λ e.
    let undrawn : is_undrawable c ≡ true = rw (control_width c e, control_small c e) refl in
    false≢true (sym h ∙ undrawn))

joined_printed : (cs : List ℕ) → All (λ d. columns_of d ≡ 0) cs → All IsScalar cs → AllByRecursion IsPrinted cs
joined_printed [] h s = tt
joined_printed (c ∷ cs) h s = (
  (s 0 c (omega arith), drawn_printed c (drawn_zero c (h 0 c (omega arith)))),
  joined_printed cs (λ k d l. h (suc k) d (omega arith)) (λ k d l. s (suc k) d (omega arith)),
)

cell_printed : (cs : List ℕ) → IsCellText cs → All IsScalar cs → AllByRecursion IsPrinted cs
cell_printed [] h s = tt
cell_printed (c ∷ cs) h s = (
  (s 0 c (omega arith), drawn_printed c h.0),
  joined_printed cs h.2 (λ k d l. s (suc k) d (omega arith)),
)

pub sent-printed : EachSentTextIsPrinted
sent-printed cs h = cell_printed cs h.characters h.scalars

pub form-readable : EachSentFormIsReadable
form-readable (Text cs) h = (sent-printed cs h.0, h.1)
form-readable f h = h

pub forms-readable : (fs : List Form) → AllByRecursion IsSentForm fs → AllByRecursion IsReadable fs
forms-readable = all-each IsSentForm IsReadable form-readable
