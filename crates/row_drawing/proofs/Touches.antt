-- The cells that single writers touch.
use Rattle.std.proofs.Common.{◌≡◌, ℕ, suc, ◌+◌, ◌-◌, ◌<◌, ◌≤◌, ◌==◌, Bool, true, false, cond, ◌&&◌, nat_lt}
use Rattle.std.proofs.Common.{nat_le, List, [], ◌∷◌, min, refl, arith, sym, ap, ◌∙◌, inl, inr, subst}
use Rattle.std.specs.Prelude.{Contains, All}
use Rattle.std.proofs.lemmas.Bool.{lt-leb, both_ways, cond_both, and_parts, eqb-true, eq-eqb, ne_eqb, le-ltb, le-leb}
use Rattle.std.proofs.lemmas.Bool.{or_left}
use Rattle.std.proofs.lemmas.Bool.{false≢true, ltb-true}
use Rattle.std.proofs.lemmas.Bool.Decides.{nat_tests}
use Rattle.vt100_forms.specs.declared.attrs.Attrs.{Attrs}
use Rattle.vt100_forms.specs.Form.{Form, Text, MoveTo, MoveRight, EraseChar, ClearAttrs, Crlf}
use Rattle.vt100_forms.specs.Form.{Sgr, changed_attrs}
use Rattle.vt100_cells.specs.Cell.{CellView, IsCell, IsCellText, IsWideAs, cell_of, columns_of, appended_in_place}
use Rattle.vt100_cells.specs.Cell.{is_filled, is_undrawable}
use Rattle.vt100_cells.specs.Line.{span_of, put, base_col}
use Rattle.vt100_cells.proofs.JoinedCells.{plain-continuation}
use Rattle.terminal_model.specs.Position.{update}
use Rattle.terminal_model.specs.Term.{Size, Term}
use Rattle.terminal_model.specs.Apply.{with_line, print as printed_cell, join, is_dropped, input, run}
use Rattle.terminal_model.specs.Touch.{put_touches, wipe_touches, input_touches, inputs_touch, form_touches}
use Rattle.terminal_model.specs.Touch.{touches, Within}
use Rattle.terminal_model.proofs.Positions.{update-same}
use Rattle.terminal_model.proofs.TermLemmas.{span-columns, columns-few}
use Rattle.terminal_model.proofs.TouchLemmas.{within-joined}
use Rattle.row_drawing.specs.declared.pen.Pen.{Pen}
use Rattle.row_drawing.specs.Writer.{Writer, ◌>>◌, goto, color, print, erasing}
use Rattle.row_drawing.proofs.RowForms.{moves-cases, change-cases}
use Rattle.row_drawing.proofs.LocalRow.{or-split, touches-wider}
use Rattle.row_drawing.proofs.Steps.{Takes, IsSendable, at, fits-here, fits-below}

-- ---- zero-width characters

-- what joins a cell now joins the one at column c of row i
record IsBehind (i c : ℕ) (t : Term) : Type 0 where
  row : t.row ≡ i
  base : base_col (t.cell t.row) t.col ≡ c

update-half : (f : ℕ → CellView) (i k : ℕ) (x : CellView) → x.continuation ≡ (f i).continuation
    → (update f i x k).continuation ≡ (f k).continuation
unfolding update
update-half f i k x h = grind (arith, nat_tests)

base-like : (f g : ℕ → CellView) (c : ℕ) → (g (c - 1)).continuation ≡ (f (c - 1)).continuation
    → base_col g c ≡ base_col f c
base-like f g c h = ap (λ b. cond b (c - 2) (c - 1)) h

join-behind : (d i c : ℕ) (t : Term) → IsBehind i c t → IsBehind i c (join d t)
unfolding join with_line
join-behind d i c t h =
    let f = t.cell t.row in
    let b = base_col f t.col in
    let x = appended_in_place (f b) d in
    let g : ℕ → CellView = update f b x in
    record {
      row = h.row;
      base = ap (λ l. base_col l t.col) (update-same t.cell t.row g)
          ∙ base-like f g t.col (update-half f b (t.col - 1) x (plain-continuation (f b) d)) ∙ h.base;
    }

input-behind : (z : Size) (d i c : ℕ) (t : Term) → columns_of d ≡ 0 → IsBehind i c t → IsBehind i c (input z d t)
unfolding input
input-behind z d i c t none h =
    cond_both (is_dropped z.cols t.col d) t _ (IsBehind i c) (λ _. h)
    (λ _. cond_both (columns_of d == 0) (join d t) _ (IsBehind i c) (λ _. join-behind d i c t h)
    (λ e. absurd (both_ways (columns_of d == 0) e (eq-eqb (columns_of d) 0 none))))

zero-touches : (z : Size) (d i c : ℕ) (t : Term) (r k : ℕ) → columns_of d ≡ 0 → IsBehind i c t
    → input_touches z d t r k ≡ true → (r ≡ i) × (k ≡ c)
unfolding input_touches
zero-touches z d i c t r k none h =
    let P : Bool → Type 0 = λ b. b ≡ true → (r ≡ i) × (k ≡ c) in
    cond_both (is_dropped z.cols t.col d) false _ P (λ _ q. absurd (false≢true q))
    (λ _. cond_both (columns_of d == 0) ((r == t.row) && (k == base_col (t.cell t.row) t.col)) _ P
    (λ _ q.
    let both = and_parts (r == t.row) _ q in
    (eqb-true r t.row both.0 ∙ h.row, eqb-true k _ both.1 ∙ h.base))
    (λ e _. absurd (both_ways (columns_of d == 0) e (eq-eqb (columns_of d) 0 none))))

zeros-touch : (z : Size) (ds : List ℕ) (i c : ℕ) (t : Term) (r k : ℕ) → All (λ d. columns_of d ≡ 0) ds
    → IsBehind i c t → inputs_touch z ds t r k ≡ true → (r ≡ i) × (k ≡ c)
zeros-touch z [] i c t r k none h q = absurd (false≢true q)
zeros-touch z (d ∷ ds) i c t r k none h q =
    let e : columns_of d ≡ 0 = none 0 d (omega arith) in
    elim (or-split (input_touches z d t r k) _ q) [
      | inl first ↦ zero-touches z d i c t r k e h first
      | inr later ↦ zeros-touch z ds i c (input z d t) r k (λ j x l. none (suc j) x (omega arith))
          (input-behind z d i c t e h) later
    ]

-- ---- the text of a cell

put-base : (f : ℕ → CellView) (i : ℕ) (y : CellView) (a : Attrs) → y.continuation ≡ false
    → base_col (put f i y a) (i + span_of y) ≡ i
put-base f i y a whole = grind (arith, nat_tests)

print-behind : (z : Size) (y : CellView) (u : Term) → y.continuation ≡ false
    → IsBehind u.row u.col (printed_cell z y u)
unfolding printed_cell with_line
print-behind z y u whole = record {
  row = refl;
  base = ap (λ l. base_col l (u.col + span_of y)) (update-same u.cell u.row (put (u.cell u.row) u.col y u.attrs))
      ∙ put-base (u.cell u.row) u.col y u.attrs whole;
}

-- the first character is put at column n of row i, over the line f
pub record IsFirst (z : Size) (x : CellView) (c : ℕ) (t : Term) (i n : ℕ) (f : ℕ → CellView) : Type 0 where
  touched : (r k : ℕ) → input_touches z c t r k ≡ true → (r ≡ i) × (put_touches f n x k ≡ true)
  behind : IsBehind i n (input z c t)

first-text : (z : Size) (x : CellView) (c : ℕ) (cs : List ℕ) (t : Term) (i n : ℕ) (f : ℕ → CellView) (r k : ℕ)
    → IsFirst z x c t i n f → All (λ d. columns_of d ≡ 0) cs → inputs_touch z (c ∷ cs) t r k ≡ true
    → (r ≡ i) × (put_touches f n x k ≡ true)
first-text z x c cs t i n f r k h none q =
    elim (or-split (input_touches z c t r k) _ q) [
      | inl first ↦ h.touched r k first
      | inr later ↦ (let there = zeros-touch z cs i n (input z c t) r k none h.behind later in
          (there.0, or_left (k == n) _ (eq-eqb k n there.1)))
    ]

-- what the first character of a cell's text is
pub record IsHead (x : CellView) (c : ℕ) (cs : List ℕ) : Type 0 where
  drawn : is_undrawable c ≡ false
  some : (columns_of c == 0) ≡ false
  wide : (columns_of c == 2) ≡ x.wide
  span : span_of x ≡ columns_of c
  zero : All (λ d. columns_of d ≡ 0) cs

head-is : (x : CellView) (c : ℕ) (cs : List ℕ) → x.text ≡ c ∷ cs → IsCell x → (Contains x.text 0xFE0F → ⊥)
    → IsHead x c cs
head-is x c cs e h plain =
    let characters : IsCellText (c ∷ cs) = subst IsCellText e h.characters in
    let some : (columns_of c == 0) ≡ false = ne_eqb (columns_of c) 0 (λ q. let positive = characters.1
    in absurd (omega arith)) in
    let as_wide : IsWideAs (c ∷ cs) x.wide = subst (λ ts. IsWideAs ts x.wide) e h.wide in
    let wide : (columns_of c == 2) ≡ x.wide = (elim as_wide [
      | inl same ↦ sym same
      | inr widened ↦ absurd (plain (subst (λ (ts : List ℕ). Contains ts 0xFE0F) (sym e)
          (suc widened.0.0, let in_rest = widened.0.1 in omega arith, widened.0.2)))
    ]) in
    record {
      drawn = characters.0;
      some = some;
      wide = wide;
      span = ap (λ b. cond b 2 1) (sym wide) ∙ span-columns (columns_of c) (columns-few c) some;
      zero = characters.2;
    }

kept_first : (z : Size) (c : ℕ) (t : Term) → is_undrawable c ≡ false → (columns_of c == 0) ≡ false
    → columns_of c ≤ z.cols → is_dropped z.cols t.col c ≡ false
kept_first z c t u some l =
    let narrow = le-ltb z.cols (columns_of c) l in
    rw (u, narrow, some) refl

first-here : (z : Size) (x : CellView) (c : ℕ) (cs : List ℕ) (t : Term) → IsHead x c cs → t.col + span_of x ≤ z.cols
    → IsFirst z x c t t.row t.col (t.cell t.row)
unfolding input input_touches
first-here z x c cs t h room =
    let fits : t.col + columns_of c ≤ z.cols = omega (arith, room, h.span) in
    let kept = kept_first z c t h.drawn h.some (omega (arith, fits)) in
    let some = h.some in
    let le = le-leb (t.col + columns_of c) z.cols fits in
    record {
      touched = λ r k q.
          let both = and_parts (r == t.row) _ ((rw (kept, some, le) refl) ∙ q) in
          let wider = touches-wider (t.cell t.row) t.col x (cell_of c t.attrs) k (λ e. sym h.wide ∙ e) both.1 in
          (eqb-true r t.row both.0, wider);
      behind = subst (IsBehind t.row t.col) (sym (rw (kept, some) (ap (printed_cell z (cell_of c t.attrs))
          (fits-here z (columns_of c) t fits)))) (print-behind z (cell_of c t.attrs) t refl);
    }

pub first-below : (z : Size) (x : CellView) (c : ℕ) (cs : List ℕ) (t : Term) (C : ℕ → ℕ → CellView) (W : ℕ → Bool)
    (r n : ℕ) (a : Attrs) → IsHead x c cs → span_of x ≤ z.cols → z.cols < n + span_of x → r + 1 < z.rows
    → is_filled (C r (z.cols - 1)) ≡ true → IsFirst z x c (at t C W r n a) (r + 1) 0 (C (r + 1))
unfolding input input_touches
first-below z x c cs t C W r n a h l over room full =
    let u = at t C W r n a in
    let past : z.cols < n + columns_of c = omega (arith, over, h.span) in
    let kept = kept_first z c u h.drawn h.some (omega (arith, l, h.span)) in
    let some = h.some in
    let off = lt-leb (n + columns_of c) z.cols past in
    let inner : nat_le z.rows (r + 1) ≡ false = lt-leb z.rows (r + 1) room in
    record {
      touched = λ i k q.
          let both = and_parts (i == (r + 1)) _ ((rw (kept, some, off, inner) refl) ∙ q) in
          (eqb-true i (r + 1) both.0, touches-wider (C (r + 1)) 0 x (cell_of c a) k (λ e. sym h.wide ∙ e) both.1);
      behind = subst (IsBehind (r + 1) 0) (sym (rw (kept, some) (ap (printed_cell z (cell_of c a))
          (fits-below z (columns_of c) t C W r n a past room full))))
          (print-behind z (cell_of c a) (at t C (update W r true) (r + 1) 0 a) refl);
    }

pub text-from : (z : Size) (x : CellView) (t : Term) (i n : ℕ) (f : ℕ → CellView) → IsSendable x
    → ((c : ℕ) (cs : List ℕ) → IsHead x c cs → IsFirst z x c t i n f) → (r k : ℕ)
    → form_touches z (Text x.text) t r k ≡ true → (r ≡ i) × (put_touches f n x k ≡ true)
unfolding form_touches
text-from z x t i n f send begins r k =
    (elim x.text as (λ ts. x.text ≡ ts → inputs_touch z ts t r k ≡ true → (r ≡ i) × (put_touches f n x k ≡ true)) [
      | [] ↦ λ e q. absurd (false≢true q)
      | c ∷ cs ↦ λ e q.
          let head = head-is x c cs e send.cell send.plain in
          first-text z x c cs t i n f r k (begins c cs head) head.zero q
    ]) refl

-- ---- writers

-- a writer's forms, which t reads, touch cells of S alone
abbrev pub Stays : (ℕ → ℕ → Type 0) → Size → Writer → Pen → Term → Type 0
Stays S z f p t = Within S z (f p).forms t

pub stays-then : (S : ℕ → ℕ → Type 0) (z : Size) (f g : Writer) (p : Pen) (t : Term) (q : Pen) (u : Term)
    → Takes z f p t q u → Stays S z f p t → Stays S z g q u → Stays S z (f >> g) p t
unfolding ◌>>◌
stays-then S z f g p t q u k a b =
    within-joined S z (f p).forms (g (f p).pen).forms t a
    (subst (λ (x : Pen). Within S z (g x).forms (run z (f p).forms t)) (sym k.pen_is)
    (subst (λ (v : Term). Within S z (g q).forms v) (sym k.term_is) b))

pub form-within : (S : ℕ → ℕ → Type 0) (z : Size) (f : Form) (t : Term)
    → ((r k : ℕ) → k < z.cols → form_touches z f t r k ≡ true → S r k) → Within S z (f ∷ []) t
unfolding touches
form-within S z f t h = (
  λ r k e.
      let both = and_parts (nat_lt r z.rows && nat_lt k z.cols) (form_touches z f t r k) e in
      h r k (ltb-true k z.cols (and_parts (nat_lt r z.rows) (nat_lt k z.cols) both.0).1) both.1,
  tt,
)

pub form-idle : (S : ℕ → ℕ → Type 0) (z : Size) (f : Form) (t : Term) → ((r k : ℕ) → form_touches z f t r k ≡ false)
    → Within S z (f ∷ []) t
form-idle S z f t h = form-within S z f t (λ r k l e. absurd (both_ways (form_touches z f t r k) (h r k) e))

pub stays-goto : (S : ℕ → ℕ → Type 0) (z : Size) (row col : ℕ) (p : Pen) (t : Term) → t.row ≡ p.pos.row → row < z.rows
    → Stays S z (goto row col) p t
unfolding goto form_touches
stays-goto S z row col p t here room =
    moves-cases (λ fs. Within S z fs t) p.pos (record { row = row; col = col })
    (λ next. form-idle S z Crlf t (λ r k. lt-leb z.rows (t.row + 1) (omega (arith, next, here, room)))) tt
    (form-idle S z (MoveRight (col - p.pos.col)) t (λ r k. refl)) (form-idle S z (MoveTo row col) t (λ r k. refl))

pub stays-color : (S : ℕ → ℕ → Type 0) (z : Size) (a : Attrs) (p : Pen) (t : Term) → Stays S z (color a) p t
unfolding color form_touches
stays-color S z a p t =
    change-cases (λ fs. Within S z fs t) p.attrs a tt (form-idle S z ClearAttrs t (λ r k. refl))
    (form-idle S z (Sgr (changed_attrs p.attrs a)) t (λ r k. refl))

pub stays-print : (S : ℕ → ℕ → Type 0) (z : Size) (t : Term) (C : ℕ → ℕ → CellView) (W : ℕ → Bool) (i c : ℕ) (a : Attrs)
    (f : ℕ → CellView) (x : CellView) (loses : Bool) (p : Pen) → IsSendable x → c + span_of x ≤ z.cols
    → ((k : ℕ) → k < z.cols → put_touches f c x k ≡ true → S i k)
    → Stays S z (print x loses) p (at t (update C i f) W i c a)
unfolding print
stays-print S z t C W i c a f x loses p send room h =
    let u = at t (update C i f) W i c a in
    form-within S z (Text x.text) u (λ r k l e.
    let there = text-from z x u i c (update C i f i) send
    (λ d ds head. first-here z x d ds u head room) r k e in
    subst (λ j. S j k) (sym there.0) (h k l
    (ap (λ g. put_touches g c x k) (sym (update-same C i f)) ∙ there.1)))

pub erase-within : (S : ℕ → ℕ → Type 0) (z : Size) (g : Form) (t : Term) (C : ℕ → ℕ → CellView) (W : ℕ → Bool)
    (i c e : ℕ)
    (a : Attrs) (f : ℕ → CellView)
    → ((r k : ℕ) → form_touches z g (at t (update C i f) W i c a) r k
    ≡ ((r == i) && wipe_touches (update C i f i) c e k))
    → ((k : ℕ) → k < z.cols → wipe_touches f c e k ≡ true → S i k) → Within S z (g ∷ []) (at t (update C i f) W i c a)
erase-within S z g t C W i c e a f is h =
    form-within S z g (at t (update C i f) W i c a) (λ r k l q.
    let both = and_parts (r == i) _ (sym (is r k) ∙ q) in
    subst (λ j. S j k) (sym (eqb-true r i both.0)) (h k l
    (ap (λ (v : ℕ → CellView). wipe_touches v c e k) (sym (update-same C i f)) ∙ both.1)))

pub stays-erasing : (S : ℕ → ℕ → Type 0) (z : Size) (t : Term) (C : ℕ → ℕ → CellView) (W : ℕ → Bool) (i c m e : ℕ)
    (a : Attrs) (f : ℕ → CellView) (loses : Bool) (p : Pen) → c + m ≡ e → e ≤ z.cols
    → ((k : ℕ) → k < z.cols → wipe_touches f c e k ≡ true → S i k)
    → Stays S z (erasing m loses) p (at t (update C i f) W i c a)
unfolding erasing form_touches
stays-erasing S z t C W i c m e a f loses p whole l h =
    let up_to : min (c + m) z.cols ≡ e = omega (arith, whole, l) in
    erase-within S z (EraseChar m) t C W i c e a f
    (λ r k. ap (λ n. (r == i) && wipe_touches (update C i f i) c n k) up_to) h
