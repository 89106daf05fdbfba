-- The forms that move the cursor to its place, and what each makes of a terminal.
use Rattle.std.proofs.Common.{◌≡◌, ℕ, zero, suc, ◌+◌, ◌-◌, ◌<◌, ◌≤◌, ◌==◌, Bool, true, false, ◌&&◌}
use Rattle.std.proofs.Common.{[], ◌∷◌, min, Option, Some, None, refl, arith, sym, ap, subst, ◌∙◌, inl, inr}
use Rattle.std.specs.Prelude.{replicate}
use Rattle.std.proofs.lemmas.Bool.{cases_Bool, both_ways, cond_both, false≢true, and_parts, eqb-true, ne_eqb}
use Rattle.std.proofs.lemmas.Bool.Decides.{nat_tests}
use mathlib.Core.Path.{fun_ext}
use Rattle.unicode_width.specs.Width.{char_width}
use Rattle.vt100_forms.specs.declared.attrs.Attrs.{Attrs}
use Rattle.vt100_forms.specs.declared.position.Pos.{Pos}
use Rattle.vt100_forms.specs.Form.{Text, EraseChar, Lf, Backspace, SaveCursor, RestoreCursor}
use Rattle.vt100_cells.specs.Cell.{CellView, has_text, empty_cell, cell_of, is_filled}
use Rattle.vt100_cells.specs.Line.{IsPaired, span_of, put, put_unflags, wiped, wipe_unflags}
use Rattle.terminal_model.specs.Position.{update}
use Rattle.terminal_model.specs.Term.{Size, Shown, Term}
use Rattle.terminal_model.specs.Apply.{apply, run}
use Rattle.terminal_model.proofs.Positions.{update-kept}
use Rattle.terminal_model.proofs.FormLemmas.{moves-lead, down-room}
use Rattle.row_drawing.specs.Writer.{print, erasing}
use Rattle.row_drawing.specs.Scene.{Scene, IsScene}
use Rattle.row_drawing.proofs.Lines.{line-reprinted}
use Rattle.row_drawing.proofs.Steps.{at, kept_or_off, IsSendable, takes-print, takes-erasing, sends-space, Takes, pen}
use Rattle.row_drawing.proofs.Columns.{empty-is, sends, span-narrow}
use Rattle.row_drawing.proofs.RowEnd.{last-is, span-few}
use Rattle.screen_drawing.specs.Cursor.{place, arriving, is_pen_at, end_col, end_cell, row_with_end}
use Rattle.screen_drawing.proofs.Rows.{line-of}
use Rattle.screen_drawing.specs.Laws.{IsDrawable, CursorIsAt}

-- ---- a row that is drawn, as a scene

still : Size → Term → Shown → ℕ → Scene
still z t s r = record {
  rows = z.rows;
  row_change = record {
    cols = z.cols;
    row = r;
    start = 0;
    old = s.cell r;
    new = s.cell r;
    wrapped = s.wrapped r;
    was_wrapped = s.wrapped r;
    above = false;
    was_above = false;
  };
  term = t;
  cells = s.cell;
  flags = s.wrapped;
}

still-scene : (z : Size) (t : Term) (s : Shown) (r : ℕ) → IsDrawable z s → r < z.rows → IsScene (still z t s r)
unfolding still
still-scene z t s r h l = record {
  whole = refl;
  some_col = h.shown.some_col;
  row_in = l;
  old = line-of z s r h.shown;
  new = line-of z s r h.shown;
  cells = h.cells r;
  plain = h.plain r;
  proper = h.proper r;
  flag = refl;
  below_first = λ e. absurd (false≢true e);
  above_filled = λ e. absurd (false≢true e);
  above_flag = λ e _. absurd (false≢true e);
}

pub record IsLast (z : Size) (s : Shown) (r : ℕ) : Type 0 where
  pub up_to : end_col z s.cell r + span_of (end_cell z s.cell r) ≡ z.cols
  pub whole : (end_cell z s.cell r).continuation ≡ false
  pub sent : has_text (end_cell z s.cell r) ≡ true → IsSendable (end_cell z s.cell r)

pub last-of : (z : Size) (t : Term) (s : Shown) (r : ℕ) → IsDrawable z s → r < z.rows → IsLast z s r
unfolding still
last-of z t s r h l =
    let k = still z t s r in
    let g = still-scene z t s r h l in
    let e = last-is k g in
    record { up_to = e.up_to; whole = e.whole; sent = λ some. sends k g (end_col z s.cell r) some }

-- ---- the cursor goes to a place

unfoldable pub Known : Option Pos → ℕ → ℕ → Type 0
Known None r c = Unit {0}
Known (Some p) r c = (r ≡ p.row) × (c ≡ p.col)

moved-at : (t : Term) (C : ℕ → ℕ → CellView) (W : ℕ → Bool) (a : Attrs) (r s c d : ℕ) → r ≡ s → c ≡ d
    → at t C W r c a ≡ at t C W s d a
moved-at t C W a r s c d e f = λ i. at t C W (e i) (f i) a

pub arrives : (z : Size) (t : Term) (C : ℕ → ℕ → CellView) (W : ℕ → Bool) (a : Attrs) (p : Option Pos) (r c row col : ℕ)
    → Known p r c → row < z.rows → col < z.cols
    → run z (arriving p (place row col)) (at t C W r c a) ≡ at t C W row col a
unfolding apply Known
arrives z t C W a None r c row col k hr hc =
    moved-at t C W a (min row (z.rows - 1)) row (min col (z.cols - 1)) col (omega arith) (omega arith)
arrives z t C W a (Some p) r c row col k hr hc =
    moves-lead z (at t C W r c a) p (place row col) k.0 k.1 hr hc

pub stays-at : (t : Term) (C : ℕ → ℕ → CellView) (W : ℕ → Bool) (a : Attrs) (p : Option Pos) (r c row col : ℕ)
    → Known p r c → is_pen_at p (place row col) ≡ true → at t C W r c a ≡ at t C W row col a
unfolding Known
stays-at t C W a None r c row col k h = absurd (false≢true h)
stays-at t C W a (Some p) r c row col k h =
    let parts = and_parts (p.row == row) (p.col == col) h in
    moved-at t C W a r row c col (k.0 ∙ eqb-true p.row row parts.0) (k.1 ∙ eqb-true p.col col parts.1)

-- the cursor moves to the rows below by line feeds
pub fed : (z : Size) (t : Term) (C : ℕ → ℕ → CellView) (W : ℕ → Bool) (a : Attrs) (c n r row : ℕ) → r + n ≡ row
    → row < z.rows → run z (replicate n Lf) (at t C W r c a) ≡ at t C W row c a
unfolding apply
fed z t C W a c zero r row e l = moved-at t C W a r row c c (omega (arith, e)) refl
fed z t C W a c (suc n) r row e l =
    ap (run z (replicate n Lf)) (down-room z (at t C W r c a) (omega (arith, e, l)))
    ∙ fed z t C W a c n (r + 1) row (omega (arith, e)) l

-- ---- the last cell is printed again

and_last : (a b c : Bool) → c ≡ false → (a && (b && c)) ≡ false
and_last true true c e = e
and_last true false c e = refl
and_last false b c e = refl

pub printed-again : (z : Size) (t : Term) (s : Shown) (r : ℕ) → IsDrawable z s → r < z.rows
    → has_text (end_cell z s.cell r) ≡ true
    → run z (Text (end_cell z s.cell r).text ∷ [])
    (at t s.cell s.wrapped r (end_col z s.cell r) (end_cell z s.cell r).attrs)
    ≡ at t s.cell s.wrapped r z.cols (end_cell z s.cell r).attrs
unfolding print
printed-again z t s r h l some =
    let C = s.cell in
    let W = s.wrapped in
    let f = s.cell r in
    let c = end_col z s.cell r in
    let x = end_cell z s.cell r in
    let a = x.attrs in
    let last = last-of z t s r h l in
    let k : Takes z (print x false) (pen r c a None false) (at t (update C r f) W r c a) _ _ =
    takes-print z t C W r c f x None false false (last.sent some) (omega (arith, last.up_to)) in
    let far : ((c + 3) == z.cols) ≡ false = ne_eqb (c + 3) z.cols (λ e. let few = span-few x
    in absurd (omega (arith, e, last.up_to, few))) in
    let stays : put_unflags z.cols f c x ≡ false = and_last x.wide (f (c + 1)).wide ((c + 3) == z.cols) far in
    let line : put f c x a ≡ f = line-reprinted f c a (h.shown.paired r) last.whole in
    ap (λ D. run z (Text x.text ∷ []) (at t D W r c a)) (sym (update-kept C r f refl)) ∙ k.term_is
    ∙ ap (λ b. at t (update C r (put f c x a)) (kept_or_off b W r) r (c + span_of x) a) stays
    ∙ ap (λ g. at t (update C r g) W r (c + span_of x) a) line
    ∙ ap (λ D. at t D W r (c + span_of x) a) (update-kept C r f refl)
    ∙ ap (λ n. at t C W r n a) last.up_to

-- ---- a space is printed in the last column, and erased

-- in a narrow cell
pub spaced-wiped_at : (f : ℕ → CellView) (n : ℕ) (x : CellView) (a b : Attrs) (k : ℕ) → IsPaired f → x.wide ≡ false
    → f n ≡ empty_cell b → (f n).wide ≡ false → (f n).continuation ≡ false → wiped (put f n x a) n (n + 1) b k ≡ f k
spaced-wiped_at f n x a b k p w e narrow single = grind (arith, nat_tests, p.next k, p.next n)

pub kept-off : (b : Bool) (W : ℕ → Bool) (r : ℕ) → W r ≡ false → kept_or_off b W r ≡ W
kept-off true W r e = update-kept W r false (sym e)
kept-off false W r e = refl

pub no-text_end : (z : Size) (t : Term) (s : Shown) (r : ℕ) → IsDrawable z s → r < z.rows
    → has_text (end_cell z s.cell r) ≡ false
    → s.cell r (z.cols - 1) ≡ empty_cell (s.cell r (z.cols - 1)).attrs
no-text_end z t s r h l none =
    let c = end_col z s.cell r in
    let x = end_cell z s.cell r in
    let last = last-of z t s r h l in
    let is : x ≡ empty_cell x.attrs = empty-is x (h.cells r c) none last.whole in
    let narrow : span_of x ≡ 1 = span-narrow x (ap (λ (y : CellView). y.wide) is) in
    let here : c ≡ z.cols - 1 = omega (arith, last.up_to, narrow) in
    subst (λ k. s.cell r k ≡ empty_cell (s.cell r k).attrs) here is

pub space-printed : (z : Size) (t : Term) (C : ℕ → ℕ → CellView) (W : ℕ → Bool) (r n : ℕ) (a : Attrs) → n + 1 ≤ z.cols
    → run z (Text (32 ∷ []) ∷ []) (at t C W r n a)
    ≡ at t (update C r (put (C r) n (cell_of 32 a) a)) W r (n + 1) a
unfolding print char_width
space-printed z t C W r n a l =
    let k : Takes z (print (cell_of 32 a) false) (pen r n a None false) (at t (update C r (C r)) W r n a) _ _ =
    takes-print z t C W r n (C r) (cell_of 32 a) None false false (sends-space a) l in
    ap (λ D. run z (Text (32 ∷ []) ∷ []) (at t D W r n a)) (sym (update-kept C r (C r) refl)) ∙ k.term_is

pub narrow-space : (a : Attrs) → (cell_of 32 a).wide ≡ false
unfolding char_width
narrow-space a = refl

abbrev pub saved_at : Term → ℕ → ℕ → Attrs → Term
saved_at t r c a = record t { saved_row = r; saved_col = c; saved_attrs = a }

pub erased-back : (z : Size) (t : Term) (C : ℕ → ℕ → CellView) (W : ℕ → Bool) (r n : ℕ) (f : ℕ → CellView) (b : Attrs)
    → n + 1 ≤ z.cols
    → run z (SaveCursor ∷ Backspace ∷ EraseChar 1 ∷ RestoreCursor ∷ []) (at t (update C r f) W r (n + 1) b)
    ≡ at (saved_at t r (n + 1) b) (update C r (wiped f n (n + 1) b))
    (kept_or_off (wipe_unflags z.cols f n (n + 1)) W r) r (n + 1) b
unfolding erasing apply
erased-back z t C W r n f b l =
    let v = saved_at t r (n + 1) b in
    let back : n + 1 - 1 ≡ n = omega arith in
    let k : Takes z (erasing 1 false) (pen r n b None false) (at v (update C r f) W r n b) _ _ =
    takes-erasing z v C W r n 1 f b None false false l in
    ap (λ c. run z (EraseChar 1 ∷ RestoreCursor ∷ []) (at v (update C r f) W r c b)) back
    ∙ ap (apply z RestoreCursor) k.term_is

-- the row is as it was
pub wiped-back : (z : Size) (t : Term) (s : Shown) (row : ℕ) (a : Attrs) → IsDrawable z s → row < z.rows
    → has_text (end_cell z s.cell row) ≡ false
    → run z (SaveCursor ∷ Backspace ∷ EraseChar 1 ∷ RestoreCursor ∷ [])
    (at t (update s.cell row (put (s.cell row) (z.cols - 1) (cell_of 32 a) a)) s.wrapped row (z.cols - 1 + 1)
    (s.cell row (z.cols - 1)).attrs)
    ≡ at (saved_at t row (z.cols - 1 + 1) (s.cell row (z.cols - 1)).attrs) s.cell s.wrapped row (z.cols - 1 + 1)
    (s.cell row (z.cols - 1)).attrs
wiped-back z t s row a h l none =
    let C = s.cell in
    let W = s.wrapped in
    let n = z.cols - 1 in
    let b = (C row n).attrs in
    let v = saved_at t row (n + 1) b in
    let is : C row n ≡ empty_cell b = no-text_end z t s row h l none in
    let g = put (C row) n (cell_of 32 a) a in
    let line : wiped g n (n + 1) b ≡ C row = fun_ext (λ i. spaced-wiped_at (C row) n (cell_of 32 a) a b i
    (h.shown.paired row) (narrow-space a) is (ap (λ (y : CellView). y.wide) is)
    (ap (λ (y : CellView). y.continuation) is)) in
    let off : W row ≡ false = (elim (cases_Bool (W row)) [
      | inr off ↦ off
      | inl on ↦ absurd (both_ways (is_filled (C row n)) (ap is_filled is) (h.shown.filled row on))
    ]) in
    let w = wipe_unflags z.cols g n (n + 1) in
    erased-back z t C W row n g b (omega (arith, h.shown.some_col))
    ∙ ap (λ f. at v (update C row f) (kept_or_off w W row) row (n + 1) b) line
    ∙ ap (λ D. at v D (kept_or_off w W row) row (n + 1) b) (update-kept C row (C row) refl)
    ∙ ap (λ V. at v C V row (n + 1) b) (kept-off w W row off)

-- ---- where the cursor waits

unfoldable pub Ends : Size → Shown → ℕ → Option ℕ → Type 0
Ends z s r None = has_text (end_cell z s.cell r) ≡ false
Ends z s r (Some i) = (i ≤ r) × (has_text (end_cell z s.cell i) ≡ true)

ends-above : (z : Size) (s : Shown) (r : ℕ) (o : Option ℕ) → has_text (end_cell z s.cell (suc r)) ≡ false → Ends z s r o
    → Ends z s (suc r) o
unfolding Ends
ends-above z s r None none e = none
ends-above z s r (Some i) none e = (let up = e.0 in omega arith, e.1)

pub ends : (z : Size) (s : Shown) (r : ℕ) → Ends z s r (row_with_end z s.cell r)
unfolding Ends
ends z s zero = cond_both (has_text (end_cell z s.cell 0)) (Some 0) None (Ends z s 0) (λ h. (omega arith, h)) (λ h. h)
ends z s (suc r) =
    cond_both (has_text (end_cell z s.cell (suc r))) (Some (suc r)) (row_with_end z s.cell r) (Ends z s (suc r))
    (λ h. (omega arith, h)) (λ h. ends-above z s r (row_with_end z s.cell r) h (ends z s r))

-- ---- where the cursor is known to be

pub known-some : (row col : ℕ) → Known (Some (place row col)) row col
unfolding Known
known-some row col = (refl, refl)

pub known-at : (p : Option Pos) (s : Shown) → CursorIsAt p s → Known p s.row s.col
unfolding Known
known-at None s h = tt
known-at (Some p) s h = h
