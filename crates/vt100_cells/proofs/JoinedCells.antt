-- A cell that a zero-width character joins, and its place in a line.
use Rattle.std.proofs.Common.{◌≡◌, ℕ, ◌+◌, ◌-◌, ◌<◌, ◌≤◌, ◌==◌, Bool, true, false, cond, not, ◌&&◌, ◌||◌, nat_lt, List}
use Rattle.std.proofs.Common.{[], ◌∷◌}
use Rattle.std.proofs.Common.{◌++◌, length, sym, refl, ap, ◌∙◌, arith, ⊎_elim}
use Rattle.std.proofs.lemmas.Bool.{false≢true, cases_eq, eq-eqb, ne_eqb, cond_both}
use Rattle.std.proofs.lemmas.Bool.Decides.{nat_tests}
use Rattle.unicode_width.specs.Width.{str_width}
use Rattle.vt100_cells.specs.Cell.{CellView, IsCell, IsWideAs, has_text, is_filled, has_room, text_with, is_widened_by}
use Rattle.vt100_cells.specs.Cell.{appended, appended_in_place}
use Rattle.vt100_cells.specs.Line.{IsPaired, Bounded, update, base_col}
use Rattle.vt100_cells.proofs.CellLemmas.{or-false}
use Rattle.vt100_cells.proofs.ListLemmas.{not_first}

-- ---- the cell that is joined

pub whole_if_wide : (f : ℕ → CellView) (i : ℕ) → IsPaired f → (f i).wide ≡ true → (f i).continuation ≡ false
whole_if_wide f i p w = (elim (f i).continuation as (λ b. (f i).continuation ≡ b → b ≡ false) [
  | true ↦ λ e. absurd (false≢true (ap (λ (c : CellView). c.wide) (sym (p.blank i e)) ∙ w))
  | false ↦ λ e. refl
]) refl

-- it isn't a second half
pub base_col-whole : (f : ℕ → CellView) (col : ℕ) → IsPaired f → (f (base_col f col)).continuation ≡ false
base_col-whole f col p =
    cond_both (f (col - 1)).continuation (col - 2) (col - 1) (λ i. (f i).continuation ≡ false)
    (λ e. let later = not_first f (col - 1) p e in
    let k : col - 2 + 1 ≡ col - 1 = omega arith in
    whole_if_wide f (col - 2) p (sym (p.next (col - 2)) ∙ ap (λ j. (f j).continuation) k ∙ e))
    (λ e. e)

pub base_col-within : (f : ℕ → CellView) (n col : ℕ) → 0 < col → col ≤ n → base_col f col < n
base_col-within f n col h l = cond_both (f (col - 1)).continuation (col - 2) (col - 1) (λ i. i < n) (λ _. omega arith)
    (λ _. omega arith)

-- ---- what joining does to a cell

text_with-some : (cs : List ℕ) (c : ℕ) → (length (text_with cs c) == 0) ≡ false
text_with-some [] c = refl
text_with-some (x ∷ xs) c = ne_eqb (length (x ∷ (xs ++ c ∷ []))) 0 (λ e. absurd (omega (arith, e)))

pub filled-appended : (x : CellView) (c : ℕ) → is_filled x ≡ true → is_filled (appended x c) ≡ true
filled-appended x c h = cond_both (has_room x.text) _ x (λ y. is_filled y ≡ true)
    (λ _. ap (λ b. not b || x.continuation) (text_with-some x.text c)) (λ _. h)

pub appended-continuation : (x : CellView) (c : ℕ) → (appended x c).continuation ≡ x.continuation
appended-continuation x c = cond_both (has_room x.text) _ x (λ y. y.continuation ≡ x.continuation) (λ _. refl)
    (λ _. refl)

-- a wide cell stays wide
pub appended-wide : (x : CellView) (c : ℕ) → x.wide ≡ true → (appended x c).wide ≡ true
appended-wide x c w = cond_both (has_room x.text) _ x (λ y. y.wide ≡ true)
    (λ _. ap (λ b. b || is_widened_by x.text c) w) (λ _. w)

pub same-width : (w v : Bool) → (v ≡ true → w ≡ true) → (w && not v) ≡ false → w ≡ v
same-width true true h e = refl
same-width true false h e = absurd (false≢true (sym e))
same-width false true h e = h refl
same-width false false h e = refl

wide_text : (cs : List ℕ) (w : Bool) → IsWideAs cs w → w ≡ true → not (length cs == 0) ≡ true
wide_text [] w h e = absurd (false≢true (sym h ∙ e))
wide_text (x ∷ xs) w h e = ap not (ne_eqb (length (x ∷ xs)) 0 (λ q. absurd (omega (arith, q))))

-- a cell that becomes wide has a text
pub appended-has_text : (x : CellView) (c : ℕ) → IsCell x → (appended x c).wide ≡ true → has_text (appended x c) ≡ true
appended-has_text x c h =
    cond_both (has_room x.text) _ x (λ y. y.wide ≡ true
    → has_text y ≡ true) (λ _ w. ap not (text_with-some x.text c)) (λ _ w. wide_text x.text x.wide h.wide w)

-- ---- the same where U+FE0F widens nothing

pub plain-continuation : (x : CellView) (c : ℕ) → (appended_in_place x c).continuation ≡ x.continuation
plain-continuation x c = cond_both (has_room x.text) _ x (λ y. y.continuation ≡ x.continuation) (λ _. refl) (λ _. refl)

pub plain-wide : (x : CellView) (c : ℕ) → (appended_in_place x c).wide ≡ x.wide
plain-wide x c = cond_both (has_room x.text) _ x (λ y. y.wide ≡ x.wide) (λ _. refl) (λ _. refl)

pub plain-filled : (x : CellView) (c : ℕ) → is_filled x ≡ true → is_filled (appended_in_place x c) ≡ true
plain-filled x c h = cond_both (has_room x.text) _ x (λ y. is_filled y ≡ true)
    (λ _. ap (λ b. not b || x.continuation) (text_with-some x.text c)) (λ _. h)

-- a character other than U+FE0F widens nothing
pub appended-narrow : (x : CellView) (c : ℕ) → (c == 0xFE0F) ≡ false → appended x c ≡ appended_in_place x c
appended-narrow x c e =
    let same : (x.wide || is_widened_by x.text c) ≡ x.wide =
    ap (λ b. x.wide || (b && nat_lt 1 (str_width false (text_with x.text c)))) e ∙ or-false x.wide in
    ap (λ w. cond (has_room x.text) (record {
      text = text_with x.text c;
      wide = w;
      continuation = x.continuation;
      attrs = x.attrs;
    }) x) same

-- ---- a line with another cell in one column

pub Bounded-update : (n : ℕ) (f : ℕ → CellView) (i : ℕ) (x : CellView) → Bounded n f → i < n → Bounded n (update f i x)
Bounded-update n f i x b l k h = grind (arith, nat_tests, b k h)

pub update-last : (f : ℕ → CellView) (i n : ℕ) (x : CellView) → (is_filled (f i) ≡ true → is_filled x ≡ true)
    → is_filled (f n) ≡ true → is_filled (update f i x n) ≡ true
update-last f i n x h g =
    ⊎_elim (λ (e : n ≡ i). ap (λ b. is_filled (cond b x (f n))) (eq-eqb n i e)
    ∙ h (ap (λ j. is_filled (f j)) (sym e) ∙ g))
    (λ ne. ap (λ b. is_filled (cond b x (f n))) (ne_eqb n i ne) ∙ g) (cases_eq n i)
