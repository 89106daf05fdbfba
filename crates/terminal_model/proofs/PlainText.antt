-- The text of a cell has no ESC.
use Rattle.std.proofs.Common.{◌≡◌, ℕ, suc, ◌<◌, true, false, List, [], ◌∷◌, ◌++◌, length, get_or, None, sym, refl, ap}
use Rattle.std.proofs.Common.{◌∙◌, arith, append-nil}
use Rattle.std.specs.Prelude.{encode_utf8, encode_utf8_all, All}
use Rattle.std.specs.List.{AllByRecursion}
use Rattle.std.proofs.lemmas.Bool.{false≢true}
use Rattle.std.proofs.lemmas.Bool.Decides.{nat_tests}
use Rattle.std.proofs.lemmas.Str.{inside_one}
use Rattle.unicode_width.specs.Width.{char_width}
use Rattle.vt100_cells.specs.Cell.{columns_of, is_undrawable, IsCellText}
use Rattle.terminal_model.specs.FormText.{EachCellIsSent, EachTextIsPlain}

esc_width : char_width false 27 ≡ None
unfolding char_width
esc_width = grind (arith, nat_tests)

-- a property of each element of both lists
pub all-append : {X : Type 0} (P : X → Type 0) (xs ys : List X) → AllByRecursion P xs → AllByRecursion P ys
    → AllByRecursion P (xs ++ ys)
all-append P [] ys h g = g
all-append P (x ∷ xs) ys h g = (h.0, all-append P xs ys h.1 g)

unfoldable pub is_no_esc : ℕ → Type 0
is_no_esc b = b ≡ 27 → ⊥

no_esc-each : (xs : List ℕ) → ((k : ℕ) → k < length xs → get_or xs k 0 ≡ 27 → ⊥) → AllByRecursion is_no_esc xs
unfolding is_no_esc
no_esc-each [] h = tt
no_esc-each (x ∷ xs) h = (h 0 (omega arith), no_esc-each xs (λ k l. h (suc k) (omega arith)))

no_esc-char : (c : ℕ) → (c ≡ 27 → ⊥) → AllByRecursion is_no_esc (encode_utf8 c)
no_esc-char c h = no_esc-each (encode_utf8 c) (λ k l e.
    h (inside_one c [] (encode_utf8 c) k (sym (append-nil (encode_utf8 c))) l (omega (arith, e)) ∙ e))

pub no_esc-all : (cs : List ℕ) → AllByRecursion is_no_esc cs → AllByRecursion is_no_esc (encode_utf8_all cs)
unfolding is_no_esc
no_esc-all [] h = tt
no_esc-all (c ∷ cs) h = all-append is_no_esc (encode_utf8 c) (encode_utf8_all cs) (no_esc-char c h.0)
    (no_esc-all cs h.1)

-- ESC isn't drawn, and takes a column
esc_is : is_undrawable 27 ≡ true
esc_is = rw esc_width refl

esc_undrawn : (c : ℕ) → is_undrawable c ≡ false → c ≡ 27 → ⊥
esc_undrawn c h e = false≢true (sym h ∙ ap is_undrawable e ∙ esc_is)

esc_spacing : (c : ℕ) → columns_of c ≡ 0 → c ≡ 27 → ⊥
esc_spacing c h e = let one : columns_of 27 ≡ 1 = rw esc_width refl in
    let none : columns_of 27 ≡ 0 = ap columns_of (sym e) ∙ h in absurd (omega arith)

all-rest : (cs : List ℕ) → All (λ d. columns_of d ≡ 0) cs → AllByRecursion is_no_esc cs
unfolding is_no_esc
all-rest [] h = tt
all-rest (c ∷ cs) h = (esc_spacing c (h 0 c (omega arith)), all-rest cs (λ k d l. h (suc k) d (omega arith)))

no_esc-cell : (cs : List ℕ) → IsCellText cs → AllByRecursion is_no_esc cs
unfolding is_no_esc
no_esc-cell [] h = tt
no_esc-cell (c ∷ cs) h = (esc_undrawn c h.0, all-rest cs h.2)

pub text-plain : EachTextIsPlain
unfolding is_no_esc
text-plain cs h = no_esc-all cs (no_esc-cell cs h.characters)

pub cell-sent : EachCellIsSent
cell-sent x h some known = record {
  some = some;
  characters = h.characters;
  short = h.short;
  scalars = h.scalars;
  known = known;
}
