-- The text of a cell, read character by character, prints the cell.
use Rattle.std.proofs.Common.{◌≡◌, ℕ, suc, ◌+◌, ◌-◌, ◌<◌, ◌≤◌, ◌==◌, true, false, cond, not, ◌&&◌, nat_lt, List, []}
use Rattle.std.proofs.Common.{◌∷◌, length, min, Option, Some, None, sym, refl, ap, subst, ◌∙◌, arith}
use Rattle.std.specs.Prelude.{Contains, All, unwrap_or, is_none}
use Rattle.std.proofs.lemmas.Bool.{ne_eqb, le-ltb, eq-eqb}
use Rattle.std.proofs.lemmas.Bool.Decides.{nat_tests}
use mathlib.Core.Path.{fun_ext}
use Rattle.unicode_width.specs.Width.{char_width}
use Rattle.vt100_forms.specs.declared.attrs.Attrs.{Attrs}
use Rattle.vt100_cells.specs.Cell.{CellView, IsCell, IsCellText, cell_of, columns_of, is_undrawable, appended_in_place}
use Rattle.vt100_cells.specs.Cell.{all_appended}
use Rattle.vt100_cells.specs.Line.{span_of, put, base_col}
use Rattle.vt100_cells.proofs.CellTexts.{cell-is_characters}
use Rattle.vt100_cells.proofs.JoinedCells.{plain-continuation, plain-wide}
use Rattle.terminal_model.specs.Position.{update}
use Rattle.terminal_model.specs.Term.{Size, Term}
use Rattle.terminal_model.specs.Apply.{with_line, print, join, made_to_fit, is_dropped, input, inputs, apply}
use Rattle.terminal_model.specs.Laws.{EachCellIsPrinted}
use Rattle.terminal_model.proofs.Positions.{update-same, update-twice}
use Rattle.terminal_model.proofs.TermLemmas.{span-some, span-columns, columns-few}

-- ---- a zero-width character is drawn

drawn_width : (w : Option ℕ) → min 2 (unwrap_or w 1) ≡ 0 → is_none w ≡ false
drawn_width None e = absurd (omega (arith, e))
drawn_width (Some n) e = refl

pub drawn_zero : (d : ℕ) → columns_of d ≡ 0 → is_undrawable d ≡ false
drawn_zero d e = ap (λ b. b && nat_lt d 0x100) (drawn_width (char_width false d) e)

kept_zero : (z : Size) (d : ℕ) (t : Term) → columns_of d ≡ 0 → 0 < t.col → is_dropped z.cols t.col d ≡ false
kept_zero z d t e l =
    let drawn = drawn_zero d e in
    let later : (t.col == 0) ≡ false = ne_eqb t.col 0 (λ q. absurd (omega arith)) in
    let narrow : nat_lt z.cols 0 ≡ false = le-ltb z.cols 0 (omega arith) in
    rw (drawn, e, later, narrow) refl

-- ---- it joins the cell that was put last

put-base_wide : (f : ℕ → CellView) (i : ℕ) (y : CellView) (a : Attrs) → y.wide ≡ true
    → base_col (put f i y a) (i + 2) ≡ i
put-base_wide f i y a w =
    let next : i + 2 - 1 ≡ i + 1 = omega arith in
    let second : (put f i y a (i + 1)).continuation ≡ true = grind (arith, nat_tests) in
    ap (λ j. cond (put f i y a j).continuation (i + 2 - 2) (i + 2 - 1)) next
    ∙ ap (λ b. cond b (i + 2 - 2) (i + 2 - 1)) second ∙ omega arith

put-base_narrow : (f : ℕ → CellView) (i : ℕ) (y : CellView) (a : Attrs) → y.continuation ≡ false
    → base_col (put f i y a) (i + 1) ≡ i
put-base_narrow f i y a c =
    let here : i + 1 - 1 ≡ i = omega arith in
    let whole : (put f i y a i).continuation ≡ false = grind (arith, nat_tests) in
    ap (λ j. cond (put f i y a j).continuation (i + 1 - 2) (i + 1 - 1)) here
    ∙ ap (λ b. cond b (i + 1 - 2) (i + 1 - 1)) whole ∙ here

-- the cell that it joins
put-base : (f : ℕ → CellView) (i : ℕ) (y : CellView) (a : Attrs) → y.continuation ≡ false
    → base_col (put f i y a) (i + span_of y) ≡ i
put-base f i y a whole =
    (elim y.wide as (λ w. y.wide ≡ w → base_col (put f i y a) (i + cond w 2 1) ≡ i) [
      | true ↦ λ e. put-base_wide f i y a e
      | false ↦ λ e. put-base_narrow f i y a whole
    ]) refl

put-at : (f : ℕ → CellView) (i : ℕ) (y : CellView) (a : Attrs) → put f i y a i ≡ y
put-at f i y a = grind (arith, nat_tests)

-- the line with another cell of the same width
put-replaced : (f : ℕ → CellView) (i : ℕ) (y x : CellView) (a : Attrs) (k : ℕ) → x.wide ≡ y.wide
    → update (put f i y a) i x k ≡ put f i x a k
unfolding update
put-replaced f i y x a k w = grind (arith, nat_tests)

joined-put : (z : Size) (d : ℕ) (y : CellView) (u : Term) → y.continuation ≡ false
    → join d (print z y u) ≡ print z (appended_in_place y d) u
unfolding join print with_line
joined-put z d y u whole =
    let f = u.cell u.row in
    let a = u.attrs in
    let x = appended_in_place y d in
    let g = put f u.col y a in
    let w : x.wide ≡ y.wide = plain-wide y d in
    let row : update u.cell u.row g u.row ≡ g = update-same u.cell u.row g in
    let base : base_col (update u.cell u.row g u.row) (u.col + span_of y) ≡ u.col =
    ap (λ h. base_col h (u.col + span_of y)) row ∙ put-base f u.col y a whole in
    let here : update u.cell u.row g u.row u.col ≡ y = ap (λ h. h u.col) row ∙ put-at f u.col y a in
    let line : update (update u.cell u.row g u.row) (base_col (update u.cell u.row g u.row) (u.col + span_of y))
    (appended_in_place (update u.cell u.row g u.row (base_col (update u.cell u.row g u.row) (u.col + span_of y)))
    d) ≡ put f u.col x a =
    ap (λ j. update (update u.cell u.row g u.row) j (appended_in_place (update u.cell u.row g u.row j) d)) base
    ∙ ap (λ v. update (update u.cell u.row g u.row) u.col (appended_in_place v d)) here
    ∙ ap (λ h. update h u.col x) row
    ∙ fun_ext (λ k. put-replaced f u.col y x a k w) in
    let cells : update (update u.cell u.row g) u.row _ ≡ update u.cell u.row (put f u.col x a) =
    ap (update (update u.cell u.row g) u.row) line ∙ update-twice u.cell u.row g (put f u.col x a) in
    λ i. record u {
      cell = cells i;
      wrapped = cond (not (sym w i && ((f (u.col + 1)).wide && ((u.col + 3) == z.cols)))) u.wrapped
          (update u.wrapped u.row false);
      col = u.col + cond (sym w i) 2 1;
    }

-- ---- the whole text

print-later : (z : Size) (y : CellView) (u : Term) → 0 < (print z y u).col
unfolding print
print-later z y u = let some = span-some y in omega arith

all_zero : (z : Size) (ds : List ℕ) (y : CellView) (u : Term) → y.continuation ≡ false → All (λ d. columns_of d ≡ 0) ds
    → inputs z ds (print z y u) ≡ print z (all_appended y ds) u
unfolding input
all_zero z [] y u whole h = refl
all_zero z (d ∷ ds) y u whole h =
    let e : columns_of d ≡ 0 = h 0 d (omega arith) in
    let some = span-some y in
    let kept = kept_zero z d (print z y u) e (print-later z y u) in
    let none : (columns_of d == 0) ≡ true = eq-eqb (columns_of d) 0 e in
    let one : input z d (print z y u) ≡ print z (appended_in_place y d) u = rw (kept, none)
    (joined-put z d y u whole) in
    ap (inputs z ds) one ∙ all_zero z ds (appended_in_place y d) u (plain-continuation y d
    ∙ whole) (λ k c l. h (suc k) c (omega arith))

all_appended-wide : (cs : List ℕ) (x : CellView) → (all_appended x cs).wide ≡ x.wide
all_appended-wide [] x = refl
all_appended-wide (c ∷ cs) x = all_appended-wide cs (appended_in_place x c) ∙ plain-wide x c

kept_first : (z : Size) (c : ℕ) (t : Term) → is_undrawable c ≡ false → 0 < columns_of c → columns_of c ≤ z.cols
    → is_dropped z.cols t.col c ≡ false
kept_first z c t u p l =
    let narrow = le-ltb z.cols (columns_of c) l in
    let some : (columns_of c == 0) ≡ false = ne_eqb (columns_of c) 0 (λ e. absurd (omega arith)) in
    rw (u, narrow, some) refl

-- the text c ∷ cs
pub printed : (z : Size) (t : Term) (x : CellView) (c : ℕ) (cs : List ℕ) → x.text ≡ c ∷ cs → IsCell x
    → (Contains x.text 0xFE0F → ⊥) → x.attrs ≡ t.attrs → span_of x ≤ z.cols
    → inputs z (c ∷ cs) t ≡ print z x (made_to_fit z (span_of x) t)
unfolding input
printed z t x c cs e h plain same l =
    let characters : IsCellText (c ∷ cs) = subst IsCellText e h.characters in
    let rest : Contains cs 0xFE0F → ⊥ = λ q. plain
    (subst (λ (ts : List ℕ). Contains ts 0xFE0F) (sym e) (suc q.0, let in_rest = q.1 in omega arith, q.2)) in
    let some : (columns_of c == 0) ≡ false = ne_eqb (columns_of c) 0 (λ q. let positive = characters.1
    in absurd (omega arith)) in
    let x_is : all_appended (cell_of c x.attrs) cs ≡ x = cell-is_characters x c cs h e rest in
    let wide : (cell_of c x.attrs).wide ≡ x.wide =
    sym (all_appended-wide cs (cell_of c x.attrs)) ∙ ap (λ (y : CellView). y.wide) x_is in
    let span : span_of x ≡ columns_of c = ap (λ b. cond b 2 1) (sym wide)
    ∙ span-columns (columns_of c) (columns-few c) some in
    let kept = kept_first z c t characters.0 characters.1 (omega arith) in
    let first : input z c t ≡ print z (cell_of c t.attrs) (made_to_fit z (columns_of c) t) = rw (kept, some) refl in
    ap (inputs z cs) first
    ∙ all_zero z cs (cell_of c t.attrs) (made_to_fit z (columns_of c) t) refl characters.2
    ∙ ap (λ a. print z (all_appended (cell_of c a) cs) (made_to_fit z (columns_of c) t)) (sym same)
    ∙ ap (λ y. print z y (made_to_fit z (columns_of c) t)) x_is
    ∙ ap (λ n. print z x (made_to_fit z n t)) (sym span)

pub cell-printed : EachCellIsPrinted
unfolding apply
cell-printed z t x h cell some plain same l =
    (elim x.text as (λ ts. x.text ≡ ts → inputs z ts t ≡ print z x (made_to_fit z (span_of x) t)) [
      | [] ↦ λ e. let none = ap length e in absurd (omega arith)
      | c ∷ cs ↦ λ e. printed z t x c cs e cell plain same l
    ]) refl
