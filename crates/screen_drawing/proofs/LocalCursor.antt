-- The cells that are touched while the cursor moves to its place.
use Rattle.std.proofs.Common.{◌≡◌, ℕ, zero, suc, ◌+◌, ◌-◌, ◌<◌, ◌==◌, Bool, true, false, ◌&&◌, ◌||◌, nat_lt, nat_le}
use Rattle.std.proofs.Common.{[], ◌∷◌, Option, Some, None, refl, arith, sym, ap, subst, ◌∙◌, inl, inr}
use Rattle.std.specs.Prelude.{replicate}
use Rattle.std.proofs.lemmas.Bool.{both_ways, and_parts, or_cases, eqb-true, leb-true}
use Rattle.std.proofs.lemmas.Bool.Decides.{nat_tests}
use Rattle.vt100_forms.specs.declared.attrs.Attrs.{Attrs}
use Rattle.vt100_forms.specs.declared.position.Pos.{Pos}
use Rattle.vt100_forms.specs.Attrs.{default_attrs}
use Rattle.vt100_forms.specs.Form.{Form, Text, MoveTo, EraseChar, Lf, Backspace, SaveCursor, RestoreCursor, change}
use Rattle.vt100_cells.specs.Cell.{CellView, cell_of}
use Rattle.vt100_cells.specs.Line.{span_of, put}
use Rattle.terminal_model.specs.Position.{update}
use Rattle.terminal_model.specs.Term.{Size, Shown, Term}
use Rattle.terminal_model.specs.Apply.{apply}
use Rattle.terminal_model.specs.Touch.{put_touches, wipe_touches, form_touches, touches, Within}
use Rattle.terminal_model.proofs.Positions.{update-kept}
use Rattle.terminal_model.proofs.FormLemmas.{down-room}
use Rattle.row_drawing.specs.Writer.{goto, color, print, erasing}
use Rattle.row_drawing.proofs.Steps.{at, pen, IsSendable}
use Rattle.row_drawing.proofs.Columns.{span-wide, span-narrow}
use Rattle.row_drawing.proofs.RowEnd.{span-few}
use Rattle.row_drawing.proofs.LocalRow.{or-four}
use Rattle.row_drawing.proofs.Touches.{stays-goto, stays-color, stays-print, stays-erasing}
use Rattle.screen_drawing.specs.Cursor.{place, arriving}
use Rattle.screen_drawing.specs.Laws.{IsDrawable}
use Rattle.screen_drawing.proofs.CursorForms.{Known}

-- ---- forms that touch nothing

pub idle : (S : ℕ → ℕ → Type 0) (z : Size) (f : Form) (t : Term) → ((r k : ℕ) → form_touches z f t r k ≡ false)
    → (r k : ℕ) → touches z f t r k ≡ true → S r k
unfolding touches
idle S z f t h r k e =
    absurd (both_ways (form_touches z f t r k) (h r k) (and_parts (nat_lt r z.rows && nat_lt k z.cols) _ e).1)

pub change-within : (S : ℕ → ℕ → Type 0) (z : Size) (a b : Attrs) (t : Term) → Within S z (change a b) t
unfolding color
change-within S z a b t = stays-color S z b (pen 0 0 a None false) t

pub arriving-within : (S : ℕ → ℕ → Type 0) (z : Size) (p : Option Pos) (r c row col : ℕ) (t : Term) → Known p r c
    → t.row ≡ r → row < z.rows → Within S z (arriving p (place row col)) t
unfolding Known goto form_touches
arriving-within S z None r c row col t k here room = (idle S z (MoveTo row col) t (λ i j. refl), tt)
arriving-within S z (Some p) r c row col t k here room =
    stays-goto S z row col (pen p.row p.col default_attrs None false) t (here ∙ k.0) room

last_row-not : (m n : ℕ) → n < m → nat_le m n ≡ false
last_row-not m n l = grind (arith, nat_tests)

pub fed-within : (S : ℕ → ℕ → Type 0) (z : Size) (t : Term) (C : ℕ → ℕ → CellView) (W : ℕ → Bool) (a : Attrs)
    (c n r row : ℕ) → r + n ≡ row → row < z.rows → Within S z (replicate n Lf) (at t C W r c a)
unfolding apply form_touches
fed-within S z t C W a c zero r row e l = tt
fed-within S z t C W a c (suc n) r row e l =
    let u = at t C W r c a in
    let room : r + 1 < z.rows = omega (arith, e, l) in (
      idle S z Lf u (λ i k. last_row-not z.rows (r + 1) room),
      subst (Within S z (replicate n Lf)) (sym (down-room z u room))
          (fed-within S z t C W a c n (r + 1) row (omega (arith, e)) l),
    )

-- ---- the end of a row

-- the last cell of row r may be touched, with its other half
pub record IsEndRoom (S : ℕ → ℕ → Type 0) (z : Size) (s : Shown) (r : ℕ) : Type 0 where
  pub last : (k : ℕ) → k + 1 ≡ z.cols → S r k
  pub first : (k : ℕ) → k + 2 ≡ z.cols → (s.cell r k).wide ≡ true → S r k

spaced-left : (f : ℕ → CellView) (n : ℕ) (x : CellView) (a : Attrs) (k : ℕ) → k + 1 ≡ n
    → (put f n x a k).wide ≡ false
spaced-left f n x a k e = grind (arith, nat_tests)

module _ (S : ℕ → ℕ → Type 0) (z : Size) (s : Shown) (h : IsDrawable z s) (r : ℕ) (l : r < z.rows)
    (room : IsEndRoom S z s r) where
  -- a cell that is printed at the end of the row, and is wide only if a wide cell was there, touches no other cell
  put-touched : (c : ℕ) (x : CellView) → c + span_of x ≡ z.cols → (s.cell r c).continuation ≡ false
      → (x.wide ≡ true → (s.cell r c).wide ≡ true) → (k : ℕ) → k < z.cols
      → put_touches (s.cell r) c x k ≡ true → S r k
  put-touched c x end single wide k low touched =
      let f = s.cell r in
      let few = span-few x in
      elim (or-four (k == c) ((k == (c + 1)) && (x.wide || (f c).wide)) (((k + 1) == c) && (f k).wide)
      ((k == (c + 2)) && (x.wide && (f (c + 1)).wide)) touched) [
        | inl at_c ↦
            (let is = eqb-true k c at_c in
            (elim x.wide as (λ w. x.wide ≡ w → S r k) [
              | true ↦ λ e. room.first k (let two = span-wide x e in omega (arith, is, two, end))
                  (ap (λ i. (f i).wide) is ∙ wide e)
              | false ↦ λ e. room.last k (let one = span-narrow x e in omega (arith, is, one, end))
            ]) refl)
        | inr (inl next) ↦
            (let is = eqb-true k (c + 1) (and_parts (k == (c + 1)) _ next).0 in
            room.last k (omega (arith, is, low, few, end)))
        | inr (inr (inl left)) ↦
            (let both = and_parts ((k + 1) == c) _ left in
            absurd (both_ways (f c).continuation single (ap (λ i. (f i).continuation)
            (sym (eqb-true (k + 1) c both.0)) ∙ (h.shown.paired r).next k ∙ both.1)))
        | inr (inr (inr third)) ↦
            (let both = and_parts (k == (c + 2)) _ third in
            let is = eqb-true k (c + 2) both.0 in
            let two = span-wide x (and_parts x.wide _ both.1).0 in
            absurd (omega (arith, is, two, end, low)))
      ]

  pub print-within : (t : Term) (c : ℕ) (x : CellView) (a : Attrs) → IsSendable x → c + span_of x ≡ z.cols
      → (s.cell r c).continuation ≡ false → (x.wide ≡ true → (s.cell r c).wide ≡ true)
      → Within S z (Text x.text ∷ []) (at t s.cell s.wrapped r c a)
  unfolding print
  print-within t c x a send end single wide =
      let f = s.cell r in
      subst (λ (C : ℕ → ℕ → CellView). Within S z (Text x.text ∷ []) (at t C s.wrapped r c a))
      (update-kept s.cell r f refl)
      (stays-print S z t s.cell s.wrapped r c a f x false (pen r c a None false) send (omega (arith, end))
      (put-touched c x end single wide))

  -- ---- a space is printed in the last column, and erased

  wipe-touched : (n : ℕ) (a : Attrs) → n + 1 ≡ z.cols → (k : ℕ) → k < z.cols
      → wipe_touches (put (s.cell r) n (cell_of 32 a) a) n (n + 1) k ≡ true → S r k
  wipe-touched n a end k low touched =
      let g = put (s.cell r) n (cell_of 32 a) a in
      elim (or_cases (nat_le n k && nat_lt k (n + 1)) _ touched) [
        | inl between ↦
            (let from = leb-true n k (and_parts (nat_le n k) (nat_lt k (n + 1)) between).0 in
            room.last k (omega (arith, from, end, low)))
        | inr edges ↦ elim (or_cases (((k + 1) == n) && (g k).wide) ((k == (n + 1)) && (g k).continuation)
            (and_parts (nat_lt n (n + 1)) _ edges).1) [
              | inl left ↦
                  (let both = and_parts ((k + 1) == n) _ left in
                  absurd (both_ways (g k).wide (spaced-left (s.cell r) n (cell_of 32 a) a k
                  (eqb-true (k + 1) n both.0)) both.1))
              | inr right ↦ (let is = eqb-true k (n + 1) (and_parts (k == (n + 1)) _ right).0
                  in absurd (omega (arith, is, end, low)))
            ]
      ]

  erase-within : (t : Term) (n : ℕ) (a b : Attrs) → n + 1 ≡ z.cols
      → Within S z (EraseChar 1 ∷ [])
      (at t (update s.cell r (put (s.cell r) n (cell_of 32 a) a)) s.wrapped r (n + 1 - 1) b)
  unfolding erasing
  erase-within t n a b end =
      let g = put (s.cell r) n (cell_of 32 a) a in
      let back : n ≡ n + 1 - 1 = omega arith in
      subst (λ c. Within S z (EraseChar 1 ∷ []) (at t (update s.cell r g) s.wrapped r c b)) back
      (stays-erasing S z t s.cell s.wrapped r n 1 (n + 1) b g false (pen r n b None false) refl
      (omega (arith, end))
      (wipe-touched n a end))

  pub wipes-within : (t : Term) (n : ℕ) (a b : Attrs) → n + 1 ≡ z.cols
      → Within S z (SaveCursor ∷ Backspace ∷ EraseChar 1 ∷ RestoreCursor ∷ [])
      (at t (update s.cell r (put (s.cell r) n (cell_of 32 a) a)) s.wrapped r (n + 1) b)
  unfolding apply form_touches
  wipes-within t n a b end =
      let v : Term = record t { saved_row = r; saved_col = n + 1; saved_attrs = b } in
      let erased = erase-within v n a b end in (
        idle S z SaveCursor _ (λ i k. refl),
        (idle S z Backspace _ (λ i k. refl), (erased.0, (idle S z RestoreCursor _ (λ i k. refl), tt))),
      )
