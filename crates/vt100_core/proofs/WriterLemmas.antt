-- What a grid's writers append, form by form.
use Rattle.std.proofs.Common.{◌≡◌, ℕ, zero, suc, ◌+◌, ◌-◌, ◌<◌, ◌≤◌, Bool, true, false, cond, not, ◌&&◌}
use Rattle.std.proofs.Common.{List, [], ◌∷◌, ◌++◌, refl, sym, ap, ◌∙◌, subst, arith, append-nil, length-append}
use Rattle.std.proofs.Common.{append_assoc, inl, inr, Option, Some, None, Result, Ok, Err, IsErr, is_ok}
use Rattle.std.proofs.lemmas.Bool.{false≢true, cases_lt, le-ltb, lt-ltb}
use Rattle.std.specs.Prelude.{length, OnErr, replicate, unwrap_or, String, string_bytes, string_len, string_capacity}
use Rattle.vt100_forms.specs.declared.attrs.Attrs.{Attrs}
use Rattle.vt100_forms.specs.declared.position.Pos.{Pos}
use Rattle.vt100_forms.specs.Form.{Form, Text, Lf, bytes_of}
use Rattle.vt100_forms.specs.Attrs.{default_attrs}
use Rattle.vt100_cells.specs.Cell.{CellView, has_text}
use Rattle.terminal_model.specs.Term.{Size}
use Rattle.row_drawing.specs.declared.drawing.Place.{Place}
use Rattle.row_drawing.specs.declared.pen.Pen.{Pen}
use Rattle.row_drawing.specs.Writer.{Drawn, Writer, ◌>>◌}
use Rattle.row_drawing.specs.Writes.{Appended, IsBegun, Refused, Wrote}
use Rattle.row_drawing.proofs.WritesLemmas.{appended_both, begun-later, begun-more, refused_first, refused_then}
use Rattle.row_drawing.proofs.WritesLemmas.{bytes_of-joined}
use Rattle.screen_drawing.specs.Rows.{afresh, RowWriters, next_row, in_turn}
use Rattle.screen_drawing.specs.Screen.{cursor_placed}
use Rattle.screen_drawing.specs.Cursor as cursor
use Rattle.screen_drawing.specs.Cursor.{place, arriving, is_pen_at, end_col, end_cell, row_with_end, printed_with}
use Rattle.screen_drawing.specs.Cursor.{Cells, wait_behind, wait_on_empty, wait, replaced}
use Rattle.vt100_rows.specs.Row.{RowView}
use Rattle.vt100_rows.specs.Forms.{redraw, difference}
use Rattle.vt100_rows.specs.Picture.{lines_of}
use Rattle.vt100_core.specs.Grid.{GridView, visible_at}
use Rattle.vt100_core.specs.Contents.{is_below_wrapped}
use Rattle.vt100_core.specs.Writers.{Appends, AppendedForms, RefusedForms, drawn_on, cursor_position_formatted}
use Rattle.vt100_core.specs.Picture.{grid_size}
use Rattle.vt100_core.proofs.ContentsLemmas.{below-next}

-- ---- a row at its place

pub row-redraw : {v w : RowView} {p : Place} {width : ℕ} {above below : Bool} (i : ℕ) → v ≡ w
    → p ≡ record { row = i; start = 0; width = width; above = above; was_above = false } → above ≡ below
    → redraw v p.start p.width p.row p.above ≡ redraw w 0 width i below
row-redraw {w = w} {width = width} i row placed wraps =
    (λ k. redraw (row k) (placed k).start (placed k).width (placed k).row (placed k).above)
    ∙ (λ k. redraw w 0 width i (wraps k))

pub row-difference : {v w earlier old : RowView} {p : Place} {width : ℕ} {above below was_above flagged : Bool} (i : ℕ)
    → v ≡ w → earlier ≡ old
    → p ≡ record { row = i; start = 0; width = width; above = above; was_above = was_above } → above ≡ below
    → was_above ≡ flagged
    → difference v earlier p.start p.width p.row p.above p.was_above ≡ difference w old 0 width i below flagged
row-difference {w = w} {old = old} {width = width} i row earlier placed wraps flag =
    (λ k. difference (row k) (earlier k) (placed k).start (placed k).width (placed k).row (placed k).above
    (placed k).was_above)
    ∙ (λ k. difference w old 0 width i (wraps k) (flag k))

-- ---- lists of forms

pub bytes_then : (fs gs : List Form) (s t u : List ℕ) → t ≡ s ++ bytes_of fs → u ≡ t ++ bytes_of gs
    → u ≡ s ++ bytes_of (fs ++ gs)
bytes_then fs gs s t u a b =
    b ∙ ap (λ bs. bs ++ bytes_of gs) a ∙ append_assoc s (bytes_of fs) (bytes_of gs)
    ∙ ap (λ bs. s ++ bs) (sym (bytes_of-joined fs gs))

bytes_of_both : (fs gs : List Form) → length (bytes_of (fs ++ gs)) ≡ length (bytes_of fs) + length (bytes_of gs)
bytes_of_both fs gs = ap length (bytes_of-joined fs gs) ∙ length-append (bytes_of fs) (bytes_of gs)

module _ {Z : Type 0} where
  pub appended : {fs : List Form} {s : String Z} (t : String Z) → string_bytes t ≡ string_bytes s ++ bytes_of fs
      → string_capacity s ≤ string_capacity t → AppendedForms fs s t
  appended t bytes room = record { bytes = bytes; capacity = room }

  -- the first ones are refused
  begun_prefix : (fs gs : List Form) (s t : String Z) → RefusedForms fs s t → RefusedForms (fs ++ gs) s t
  begun_prefix fs gs s t h =
      let both = bytes_of_both fs gs in
      record {
        begun = subst (λ bs. IsBegun (string_bytes s) bs (string_bytes t)) (sym (bytes_of-joined fs gs))
            (begun-more (string_bytes s) (bytes_of fs) (bytes_of gs) (string_bytes t) h.begun);
        full = omega (arith, h.full, both);
      }

  -- the first ones are appended, and the others refused
  pub begun_rest : (fs gs : List Form) (s t u : String Z) → AppendedForms fs s t → RefusedForms gs t u
      → RefusedForms (fs ++ gs) s u
  begun_rest fs gs s t u e h =
      let both = bytes_of_both fs gs in
      let now = ap length e.bytes ∙ length-append (string_bytes s) (bytes_of fs) in
      record {
        begun = subst (λ bs. IsBegun (string_bytes s) bs (string_bytes u)) (sym (bytes_of-joined fs gs))
            (begun-later (string_bytes s) (bytes_of fs) (bytes_of gs) (string_bytes t) (string_bytes u) e.bytes
            h.begun);
        full = omega (arith, both, now, e.capacity, h.full, s.bytes.ok.0, t.bytes.ok.0);
      }

  -- a call that appends the first ones in one piece is refused
  pub begun_none : (fs gs all : List Form) (s t : String Z) → all ≡ fs ++ gs → string_bytes t ≡ string_bytes s
      → string_capacity s < string_len s + length (bytes_of fs) → RefusedForms all s t
  begun_none fs gs all s t e same full =
      subst (λ hs. RefusedForms hs s t) (sym e) (begun_prefix fs gs s t (record {
        begun = ([], bytes_of fs, refl, same ∙ sym (append-nil (string_bytes s)));
        full = full;
      }))

  pub refused : {T E : Type 0} (r : Result T E) (fs : List Form) (s t : String Z) → IsErr r → RefusedForms fs s t
      → Appends fs s (is_ok r) t
  refused (Ok x) fs s t e h = absurd (false≢true e)
  refused (Err x) fs s t e h = h

  -- the first ones are appended, and then the others, or a part of them
  pub appends_rest : (fs gs all : List Form) (s t : String Z) (b : Bool) (u : String Z) → all ≡ fs ++ gs
      → AppendedForms fs s t → Appends gs t b u → Appends all s b u
  appends_rest fs gs all s t true u e h r = record {
    bytes = bytes_then fs gs (string_bytes s) (string_bytes t) (string_bytes u) h.bytes r.bytes
        ∙ ap (λ hs. string_bytes s ++ bytes_of hs) (sym e);
    capacity = omega (arith, h.capacity, r.capacity);
  }
  appends_rest fs gs all s t false u e h r =
      subst (λ hs. RefusedForms hs s u) (sym e) (begun_rest fs gs s t u h r)

  -- what a call says that appends some in one piece
  pub last_appends : {T E : Type 0} (r : Result T E) (fs : List Form) (s t : String Z)
      → string_bytes t ≡ cond (is_ok r) (string_bytes s ++ bytes_of fs) (string_bytes s)
      → OnErr r (string_capacity s < string_len s + length (bytes_of fs)) → string_capacity s ≤ string_capacity t
      → Appends fs s (is_ok r) t
  last_appends (Ok x) fs s t e full room = record { bytes = e; capacity = room }
  last_appends (Err x) fs s t e full room =
      begun_none fs [] fs s t (sym (append-nil fs)) e full

  -- a form is appended, and then the others, or a part of them
  pub form_appends : (f : Form) (gs : List Form) (s t : String Z) (b : Bool) (u : String Z)
      → string_bytes t ≡ string_bytes s ++ bytes_of (f ∷ []) → string_capacity s ≤ string_capacity t → Appends gs t b u
      → Appends (f ∷ gs) s b u
  form_appends f gs s t b u h room r =
      appends_rest (f ∷ []) gs (f ∷ gs) s t b u refl (record { bytes = h; capacity = room }) r

  -- none is appended
  pub none_appends : {T E : Type 0} (r : Result T E) (fs gs all : List Form) (s t : String Z) → IsErr r
      → all ≡ fs ++ gs → string_bytes t ≡ string_bytes s → string_capacity s < string_len s + length (bytes_of fs)
      → Appends all s (is_ok r) t
  none_appends r fs gs all s t err e same full = refused r all s t err (begun_none fs gs all s t e same full)

  -- the first ones are refused
  pub refused_prefix : {T E : Type 0} (r : Result T E) (fs gs all : List Form) (s t : String Z) → IsErr r
      → all ≡ fs ++ gs → RefusedForms fs s t → Appends all s (is_ok r) t
  refused_prefix r fs gs all s t err e h =
      refused r all s t err (subst (λ hs. RefusedForms hs s t) (sym e) (begun_prefix fs gs s t h))

  -- the same forms
  pub appends_as : (fs gs : List Form) (s : String Z) (b : Bool) (t : String Z) → gs ≡ fs → Appends fs s b t
      → Appends gs s b t
  appends_as fs gs s b t e h = subst (λ hs. Appends hs s b t) (sym e) h

  -- no form is to be appended
  pub appends_nothing : (fs : List Form) (s : String Z) → string_bytes s ≡ string_bytes s ++ bytes_of fs
      → AppendedForms fs s s
  appends_nothing fs s e = record { bytes = e; capacity = omega arith }

-- ---- line feeds

line_feeds-suc : (n : ℕ) → replicate (suc n) Lf ≡ replicate n Lf ++ (Lf ∷ [])
line_feeds-suc zero = refl
line_feeds-suc (suc n) = ap (λ (fs : List Form). Lf ∷ fs) (line_feeds-suc n)

pub line_feeds-next : (n m : ℕ) (s t u : List ℕ) → m ≡ n + 1 → t ≡ s ++ bytes_of (replicate n Lf)
    → u ≡ t ++ bytes_of (Lf ∷ []) → u ≡ s ++ bytes_of (replicate m Lf)
line_feeds-next n m s t u e a b =
    let next : suc n ≡ m = omega (arith, e) in
    bytes_then (replicate n Lf) (Lf ∷ []) s t u a b ∙ ap (λ fs. s ++ bytes_of fs) (sym (line_feeds-suc n))
    ∙ ap (λ k. s ++ bytes_of (replicate k Lf)) next

line_feeds-both : (n k m : ℕ) → n + k ≡ m → replicate m Lf ≡ replicate n Lf ++ replicate k Lf
line_feeds-both zero k m e = let same : m ≡ k = omega (arith, e) in ap (λ j. replicate j Lf) same
line_feeds-both (suc n) k zero e = absurd (omega (arith, e))
line_feeds-both (suc n) k (suc m) e = ap (λ (fs : List Form). Lf ∷ fs) (line_feeds-both n k m (omega (arith, e)))

pub line_feeds-begun : {Z : Type 0} (n m : ℕ) (s t u : String Z) → n < m → AppendedForms (replicate n Lf) s t
    → string_bytes u ≡ string_bytes t → string_capacity t < string_len t + length (bytes_of (Lf ∷ []))
    → RefusedForms (replicate m Lf) s u
line_feeds-begun n m s t u inside a same full =
    let k = m - n - 1 in
    let whole : n + suc k ≡ m = omega (arith, inside) in
    subst (λ fs. RefusedForms fs s u) (sym (line_feeds-both n (suc k) m whole))
    (begun_rest (replicate n Lf) (replicate (suc k) Lf) s t u a
    (begun_none (Lf ∷ []) (replicate k Lf) (replicate (suc k) Lf) t u refl same full))

-- ---- the row at whose end the cursor waits

pub end-above : (z : Size) (C : Cells) (r q : ℕ) → r ≡ q + 1 → has_text (end_cell z C r) ≡ false
    → row_with_end z C r ≡ row_with_end z C q
end-above z C zero q e h = absurd (omega (arith, e))
end-above z C (suc r) q e h =
    let same : r ≡ q = omega (arith, e) in
    ap (λ b. cond b (Some (suc r)) (row_with_end z C r)) h ∙ ap (row_with_end z C) same

-- ---- the cursor waits

pub wait_behind-none : (z : Size) (C : Cells) (p : Option Pos) (a : Attrs) (r col : ℕ) (t : List ℕ) → col ≡ z.cols
    → is_pen_at p (place r col) ≡ true → t ≡ t ++ bytes_of (wait_behind z C p a r)
unfolding wait_behind
wait_behind-none z C p a r col t e h =
    let there : is_pen_at p (place r z.cols) ≡ true = ap (λ k. is_pen_at p (place r k)) (sym e) ∙ h in
    let rest = arriving p (place r (end_col z C r)) ++ printed_with a (end_cell z C r) in
    sym (ap (λ b. t ++ bytes_of (cond b [] rest)) there ∙ append-nil t)

pub wait_behind-some : (z : Size) (C : Cells) (p : Option Pos) (a : Attrs) (r col k : ℕ) (x : CellView) → col ≡ z.cols
    → is_pen_at p (place r col) ≡ false → k ≡ end_col z C r → x ≡ end_cell z C r
    → wait_behind z C p a r ≡ arriving p (place r k) ++ printed_with a x
unfolding wait_behind
wait_behind-some z C p a r col k x e h ek ex =
    let off : is_pen_at p (place r z.cols) ≡ false = ap (λ k. is_pen_at p (place r k)) (sym e) ∙ h in
    let rest = arriving p (place r (end_col z C r)) ++ printed_with a (end_cell z C r) in
    ap (λ b. cond b [] rest) off ∙ (λ i. arriving p (place r (sym ek i)) ++ printed_with a (sym ex i))

pub wait_on_empty-is : (z : Size) (p : Option Pos) (a : Attrs) (r : ℕ) (x : CellView) (row col : ℕ) (b : Attrs)
    → row ≡ r → col ≡ z.cols - 1 → b ≡ x.attrs
    → wait_on_empty z p a r x ≡ arriving p (place row col) ++ (Text (32 ∷ []) ∷ replaced a b)
unfolding wait_on_empty
wait_on_empty-is z p a r x row col b er e h =
    λ i. arriving p (place (sym er i) (sym e i)) ++ (Text (32 ∷ []) ∷ replaced a (sym h i))

-- ---- the cursor is placed

-- in a column of its row
pub cursor-inside : (g : GridView) (p : Option Pos) (a : Option Attrs) → g.col < g.width
    → cursor_position_formatted g p a ≡ arriving p (place g.row g.col)
unfolding cursor.cursor_position_formatted
cursor-inside g p a h = rw (lt-ltb g.col g.width h) refl

-- it waits there already
pub cursor-there : (g : GridView) (p : Option Pos) (a : Option Attrs) (t : List ℕ) → g.width ≤ g.col
    → is_pen_at p (place g.row g.col) ≡ true → t ≡ t ++ bytes_of (cursor_position_formatted g p a)
unfolding cursor.cursor_position_formatted
cursor-there g p a t h e = rw (le-ltb g.col g.width h, e) (sym (append-nil t))

-- where it waits elsewhere, and o is the row that is found
module _ (g : GridView) (p : Option Pos) (a : Option Attrs) (b : Attrs) (eb : b ≡ unwrap_or a default_attrs)
    (h : g.width ≤ g.col) (off : is_pen_at p (place g.row g.col) ≡ false) where
  cursor-waits : (o : Option ℕ) → o ≡ row_with_end (grid_size g) (lines_of g.rows) g.row
      → cursor_position_formatted g p a ≡ wait (grid_size g) (lines_of g.rows) p b g.row o
  unfolding cursor.cursor_position_formatted
  cursor-waits o e =
      rw (le-ltb g.col g.width h, off) (λ i. wait (grid_size g) (lines_of g.rows) p (sym eb i) g.row (sym e i))

  -- after the text of row r
  pub cursor-behind : (r : ℕ) → Some r ≡ row_with_end (grid_size g) (lines_of g.rows) g.row
      → cursor_position_formatted g p a
      ≡ wait_behind (grid_size g) (lines_of g.rows) p b r ++ replicate (g.row - r) Lf
  unfolding wait
  cursor-behind r e = cursor-waits (Some r) e

  -- no row has a text at its end
  pub cursor-on_empty : None ≡ row_with_end (grid_size g) (lines_of g.rows) g.row
      → cursor_position_formatted g p a
      ≡ wait_on_empty (grid_size g) p b g.row (lines_of g.rows g.row (g.width - 1))
  unfolding wait
  cursor-on_empty e = cursor-waits None e

-- ---- one row after another

module _ (had : ℕ → Bool) (rows : RowWriters) where
  -- row n is drawn
  pub rows-next : {Z : Type 0} {n m : ℕ} {f : Writer} {p q r : Pen} {s t u : String Z} → m ≡ n + 1
      → f ≡ rows n (had n && not q.lost) → Appended (in_turn had rows n) p s q t → Appended f (afresh q) t r u
      → Appended (in_turn had rows m) p s r u
  unfolding in_turn next_row
  rows-next {n = n} {m = m} {f = f} {p = p} {q = q} {r = r} {s = s} {t = t} {u = u} em is above row =
      let next : suc n ≡ m = omega (arith, em) in
      let here = subst (λ (w : Writer). Appended w (afresh q) t r u) is row in
      let drawn : Appended (next_row had rows n) q t r u = record {
        wrote = record { pen_is = here.wrote.pen_is; text_is = here.wrote.text_is };
        capacity = here.capacity;
      } in
      subst (λ k. Appended (in_turn had rows k) p s r u) next (appended_both above drawn)

  -- row n is refused
  pub rows-begun : {Z : Type 0} {n : ℕ} (m : ℕ) {f : Writer} {p q : Pen} {s t : String Z} (u : String Z) → n < m
      → f ≡ rows n (had n && not q.lost) → Appended (in_turn had rows n) p s q t → Refused f (afresh q) t u
      → Refused (in_turn had rows m) p s u
  unfolding in_turn next_row
  rows-begun zero u inside is above begun = absurd (omega (arith, inside))
  rows-begun {n = n} (suc m) {f = f} {p = p} {q = q} {s = s} {t = t} u inside is above begun =
      elim (cases_lt n m) [
        | inl before ↦ refused_first (next_row had rows m) (rows-begun m u before is above begun)
        | inr after ↦
            (let same : n ≡ m = omega (arith, inside, after) in
            let here = subst (λ (w : Writer). Refused w (afresh q) t u) is begun in
            subst (λ k. Refused (in_turn had rows (suc k)) p s u) same
            (refused_then {g = next_row had rows n} above (record { begun = here.begun; full = here.full })))
      ]

-- whether row v, which is shown at n, goes on in the next
pub wraps-next : (g : GridView) (n m : ℕ) (v : RowView) (b : Bool) → m ≡ n + 1 → v ≡ visible_at g n → b ≡ v.wrapped
    → b ≡ is_below_wrapped g m
wraps-next g n m v b em ev e =
    let next : suc n ≡ m = omega (arith, em) in
    e ∙ ap (λ (x : RowView). x.wrapped) ev ∙ below-next g n ∙ ap (is_below_wrapped g) next

-- ---- whole grids

-- the rows are drawn by f, and then the cursor is placed
module _ (g : GridView) (f : Writer) (start : Pen) where
  abbrev placed : Drawn
  placed = (f >> cursor_placed (grid_size g) (drawn_on g)) start

  placed-forms : {s t : List ℕ} {q : Pen} → Wrote f start s q t
      → placed.forms ≡ (f start).forms ++ cursor_position_formatted g (Some q.pos) (Some q.attrs)
  unfolding ◌>>◌ cursor_placed
  placed-forms h = ap (λ (x : Pen). (f start).forms
      ++ cursor_position_formatted g (Some x.pos) (Some x.attrs)) h.pen_is

  pub placed-attrs : {p q : Pen} {s t : List ℕ} → p ≡ start → Wrote f p s q t → q.attrs ≡ placed.pen.attrs
  unfolding ◌>>◌ cursor_placed
  placed-attrs {q = q} e h = ap (λ (x : Pen). x.attrs) (sym h.pen_is) ∙ ap (λ x. (f x).pen.attrs) e

  -- the rows are refused
  pub placed-rows : {Z : Type 0} {p : Pen} (s t : String Z) → p ≡ start → Refused f p s t
      → RefusedForms placed.forms s t
  unfolding ◌>>◌
  placed-rows {p = p} s t e h =
      let q = (f start).pen in
      let rows = subst (λ x. Refused f x s t) e h in
      begun_prefix (f start).forms (cursor_placed (grid_size g) (drawn_on g) q).forms s t
      (record { begun = rows.begun; full = rows.full })

  -- they are drawn, and then the cursor is placed, or this is refused
  pub placed-cursor : {Z : Type 0} {p q : Pen} {s t : String Z} (b : Bool) (u : String Z) → p ≡ start
      → Appended f p s q t → Appends (cursor_position_formatted g (Some q.pos) (Some q.attrs)) t b u
      → Appends placed.forms s b u
  placed-cursor {q = q} {s = s} {t = t} b u e h r =
      let drawn = subst (λ x. Appended f x s q t) e h in
      appends_rest (f start).forms (cursor_position_formatted g (Some q.pos) (Some q.attrs)) placed.forms s t b u
      (placed-forms drawn.wrote) (record { bytes = drawn.wrote.text_is; capacity = drawn.capacity }) r
