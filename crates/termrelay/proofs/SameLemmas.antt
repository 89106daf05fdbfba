-- Screens of which all that is shown is the same.
use Rattle.std.proofs.Common.{◌≡◌, ℕ, ◌<◌, ◌≤◌, ◌==◌, Bool, true, false, arith, ap, refl, sym, inl, inr, ◌∙◌}
use mathlib.Core.Logic.{⊎_elim}
use Rattle.std.proofs.lemmas.Bool.{cases_lt, cases_Bool, and_parts, eqb-true}
use Rattle.std.proofs.lemmas.Bool.Decides.{nat_tests}
use Rattle.vt100_forms.specs.declared.modes.MouseProtocolMode.{MouseProtocolMode}
use Rattle.vt100_forms.specs.declared.modes.MouseProtocolEncoding.{MouseProtocolEncoding}
use Rattle.vt100_forms.specs.declared.modes.CursorStyle.{CursorStyle}
use Rattle.vt100_forms.specs.Attrs.{attrs_eq}
use Rattle.vt100_forms.specs.Form.{mouse_number, encoding_number, style_number}
use Rattle.vt100_cells.specs.Cell.{bool_eq, cell_eq}
use Rattle.vt100_cells.specs.CellEq.{cell_eq-true, attrs_eq-true}
use Rattle.terminal_model.specs.Term.{Size, Modes, Shown, IsShown}
use Rattle.termrelay.specs.Answers.{all_below, modes_eq, same_shown, EachSameIsOne}
use Rattle.termrelay.proofs.BelowLemmas.{all-missed}
use Rattle.termrelay.proofs.ShownLemmas.{one-same}

pub all-below : (k : ℕ) (p : ℕ → Bool) → all_below k p ≡ true → (m : ℕ) → m < k → p m ≡ true
all-below k p e m h = grind (arith, all-missed k m p h)

same-bool : (a b : Bool) → bool_eq a b ≡ true → a ≡ b
same-bool a b h = grind arith

same-mouse : (m n : MouseProtocolMode) → (mouse_number m == mouse_number n) ≡ true → m ≡ n
same-mouse m n h = grind (arith, nat_tests)

same-encoding : (m n : MouseProtocolEncoding) → (encoding_number m == encoding_number n) ≡ true → m ≡ n
same-encoding m n h = grind (arith, nat_tests)

same-style : (m n : CursorStyle) → (style_number m == style_number n) ≡ true → m ≡ n
same-style m n h = grind (arith, nat_tests)

same-modes : (m n : Modes) → modes_eq m n ≡ true → m ≡ n
same-modes m n h =
    let keypad = same-bool m.keypad n.keypad (grind arith) in
    let keys = same-bool m.cursor_keys n.cursor_keys (grind arith) in
    let paste = same-bool m.paste n.paste (grind arith) in
    let mice = same-mouse m.mouse n.mouse (grind arith) in
    let coding = same-encoding m.encoding n.encoding (grind arith) in
    λ i. record { keypad = keypad i; cursor_keys = keys i; paste = paste i; mouse = mice i; encoding = coding i }

-- cells that are the same on the screen are the same everywhere
same-cells : (z : Size) (s t : Shown) → IsShown z s → IsShown z t
    → all_below z.rows (λ r. all_below z.cols (λ k. cell_eq (s.cell r k) (t.cell r k))) ≡ true → (r k : ℕ)
    → s.cell r k ≡ t.cell r k
same-cells z s t i j h r k =
    ⊎_elim
    (λ (low : r < z.rows). ⊎_elim
    (λ (left : k < z.cols). cell_eq-true (s.cell r k) (t.cell r k)
    (all-below z.cols (λ c. cell_eq (s.cell r c) (t.cell r c))
    (all-below z.rows (λ q. all_below z.cols (λ c. cell_eq (s.cell q c) (t.cell q c))) h r low) k left))
    (λ (right : z.cols ≤ k). i.beyond r k right ∙ sym (j.beyond r k right))
    (cases_lt k z.cols))
    (λ (high : z.rows ≤ r). i.below r k high ∙ sym (j.below r k high))
    (cases_lt r z.rows)

same-flags : (z : Size) (s t : Shown) → IsShown z s → IsShown z t
    → all_below z.rows (λ r. bool_eq (s.wrapped r) (t.wrapped r)) ≡ true → (r : ℕ) → s.wrapped r ≡ t.wrapped r
same-flags z s t i j h r =
    ⊎_elim
    (λ (low : r < z.rows). same-bool (s.wrapped r) (t.wrapped r)
    (all-below z.rows (λ q. bool_eq (s.wrapped q) (t.wrapped q)) h r low))
    (λ (high : z.rows ≤ r). i.below_flag r high ∙ sym (j.below_flag r high))
    (cases_lt r z.rows)

pub same-one : EachSameIsOne
unfolding same_shown
same-one z s t i j h =
    let a = and_parts (all_below z.rows (λ r. all_below z.cols (λ k. cell_eq (s.cell r k) (t.cell r k)))) _ h in
    let b = and_parts (all_below z.rows (λ r. bool_eq (s.wrapped r) (t.wrapped r))) _ a.1 in
    let c = and_parts (s.row == t.row) _ b.1 in
    let d = and_parts (s.col == t.col) _ c.1 in
    let e = and_parts (bool_eq s.hidden t.hidden) _ d.1 in
    let f = and_parts (attrs_eq s.attrs t.attrs) _ e.1 in
    let g = and_parts (modes_eq s.modes t.modes) _ f.1 in
    let cells = same-cells z s t i j a.0 in
    let flags = same-flags z s t i j b.0 in
    let row = eqb-true s.row t.row c.0 in
    let col = eqb-true s.col t.col d.0 in
    let hidden = same-bool s.hidden t.hidden e.0 in
    let attrs = attrs_eq-true s.attrs t.attrs f.0 in
    let modes = same-modes s.modes t.modes g.0 in
    let look = same-style s.style t.style g.1 in
    λ n. record {
      cell = λ r k. cells r k n;
      wrapped = λ r. flags r n;
      row = row n;
      col = col n;
      hidden = hidden n;
      attrs = attrs n;
      modes = modes n;
      style = look n;
    }

-- if a Boolean says whether two screens show the same, it is the comparison's result
pub asked-same : (z : Size) (s t : Shown) (answer : Bool) → IsShown z s → IsShown z t → (answer ≡ true → s ≡ t)
    → (s ≡ t → answer ≡ true) → answer ≡ same_shown z s t
asked-same z s t true i j to from = sym (ap (same_shown z s) (sym (to refl)) ∙ one-same z s)
asked-same z s t false i j to from = elim (cases_Bool (same_shown z s t)) [
  | inl is ↦ from (same-one z s t i j is) ∙ sym is
  | inr other ↦ sym other
]
