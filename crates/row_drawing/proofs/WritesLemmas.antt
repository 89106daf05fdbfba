-- What calls write, one after the other.
use Rattle.std.proofs.Common.{◌≡◌, ℕ, zero, suc, ◌+◌, ◌-◌, ◌<◌, ◌≤◌, ◌==◌, ◌&&◌, Bool, true, false, ◌||◌, ◌⊎◌, List, []}
use Rattle.std.proofs.Common.{◌∷◌, ◌++◌, refl, sym, ap, ◌∙◌, inl, inr, append-nil, append_assoc, length-append, subst}
use Rattle.std.proofs.Common.{None, arith, Result, Ok, Err}
use Rattle.std.specs.Prelude.{encode_utf8_all, is_ok, length, String, string_bytes, string_len, string_capacity}
use Rattle.std.specs.Result.{IsErr}
use Rattle.vt100_forms.specs.declared.attrs.Attrs.{Attrs}
use Rattle.vt100_forms.specs.Form.{Form, EraseChar, Backspace, bytes_of, form_bytes, moves, change}
use Rattle.vt100_cells.specs.Cell.{CellView}
use Rattle.vt100_cells.specs.CellEq.{attrs_eq-refl}
use Rattle.vt100_forms.specs.declared.position.Pos.{Pos}
use Rattle.std.proofs.lemmas.Bool.{and_parts, cases_lt, eqb-true, ne_eqb, eq-eqb, false≢true}
use Rattle.vt100_cells.specs.Line.{span_of}
use Rattle.row_drawing.specs.declared.pen.Pen.{Pen}
use Rattle.row_drawing.specs.Writer.{Drawn, Writer, ◌>>◌, skip, goto, color, print, back, erasing}
use Rattle.row_drawing.specs.RowWriter.{RowChange, column, columns}
use Rattle.row_drawing.specs.Writes.{IsBegun, Wrote, Appended, Refused, Writes}

pub bytes_of-joined : (fs gs : List Form) → bytes_of (fs ++ gs) ≡ bytes_of fs ++ bytes_of gs
bytes_of-joined [] gs = refl
bytes_of-joined (f ∷ fs) gs = ap (λ bs. form_bytes f ++ bs) (bytes_of-joined fs gs)
    ∙ sym (append_assoc (form_bytes f) (bytes_of fs) (bytes_of gs))

pub begun-more : (s a b t : List ℕ) → IsBegun s a t → IsBegun s (a ++ b) t
begun-more s a b t h = (
  h.0,
  h.1 ++ b,
  ap (λ bs. bs ++ b) h.2 ∙ append_assoc h.0 h.1 b,
  h.3,
)

-- the whole text
pub begun_whole : (s a t : List ℕ) → t ≡ s ++ a → IsBegun s a t
begun_whole s a t e = (a, [], sym (append-nil a), e)

pub begun-later : (s a b t u : List ℕ) → t ≡ s ++ a → IsBegun t b u → IsBegun s (a ++ b) u
begun-later s a b t u e h = (
  a ++ h.0,
  h.1,
  ap (λ bs. a ++ bs) h.2 ∙ sym (append_assoc a h.0 h.1),
  h.3 ∙ ap (λ bs. bs ++ h.0) e ∙ append_assoc s a h.0,
)

-- ---- one writer after another

pub wrote_then : (f g : Writer) (p : Pen) (s : List ℕ) (q : Pen) (t : List ℕ) (r : Pen) (u : List ℕ)
    → Wrote f p s q t → Wrote g q t r u → Wrote (f >> g) p s r u
unfolding ◌>>◌
wrote_then f g p s q t r u a b = record {
  pen_is = ap (λ x. (g x).pen) a.pen_is ∙ b.pen_is;
  text_is = b.text_is ∙ ap (λ bs. bs ++ bytes_of (g q).forms) a.text_is ∙ append_assoc s (bytes_of (f p).forms)
      (bytes_of
      (g q).forms) ∙ ap (λ x. s ++ (bytes_of (f p).forms ++ bytes_of (g x).forms)) (sym a.pen_is)
      ∙ ap (λ bs. s ++ bs) (sym (bytes_of-joined (f p).forms (g (f p).pen).forms));
}

-- the first is refused
pub begun_first : (f g : Writer) (p : Pen) (s t : List ℕ) → IsBegun s (bytes_of (f p).forms) t
    → IsBegun s (bytes_of ((f >> g) p).forms) t
unfolding ◌>>◌
begun_first f g p s t h = subst (λ bs. IsBegun s bs t) (sym (bytes_of-joined (f p).forms (g (f p).pen).forms))
    (begun-more s (bytes_of (f p).forms) (bytes_of (g (f p).pen).forms) t h)

-- the second is
pub begun_then : (f g : Writer) (p : Pen) (s : List ℕ) (q : Pen) (t u : List ℕ) → Wrote f p s q t
    → IsBegun t (bytes_of (g q).forms) u → IsBegun s (bytes_of ((f >> g) p).forms) u
unfolding ◌>>◌
begun_then f g p s q t u a h = subst (λ bs. IsBegun s bs u) (sym (bytes_of-joined (f p).forms (g (f p).pen).forms))
    (begun-later s (bytes_of (f p).forms) (bytes_of (g (f p).pen).forms) t u a.text_is
    (subst (λ x. IsBegun t (bytes_of (g x).forms) u) (sym a.pen_is) h))

pub wrote_as : (f g : Writer) (p : Pen) (s : List ℕ) (q : Pen) (t : List ℕ) → g p ≡ f p → Wrote f p s q t
    → Wrote g p s q t
wrote_as f g p s q t e a = record {
  pen_is = ap (λ (d : Drawn). d.pen) e ∙ a.pen_is;
  text_is = a.text_is ∙ ap (λ (d : Drawn). s ++ bytes_of d.forms) (sym e);
}

-- where the writers and the places are inferred
pub wrote_both : {f g : Writer} {p : Pen} {s : List ℕ} {q : Pen} {t : List ℕ} {r : Pen} {u : List ℕ} → Wrote f p s q t
    → Wrote g q t r u → Wrote (f >> g) p s r u
wrote_both a b = wrote_then _ _ _ _ _ _ _ _ a b

pub wrote_by : {f g : Writer} {p : Pen} {s : List ℕ} {q : Pen} {t : List ℕ} → g p ≡ f p → Wrote f p s q t
    → Wrote g p s q t
wrote_by e a = wrote_as _ _ _ _ _ _ e a

-- of what a call appends, this is a prefix
pub record Began (f : Writer) (p : Pen) (s t : List ℕ) : Type 0 where
  pub is : IsBegun s (bytes_of (f p).forms) t

-- none of it
pub began_none : (f : Writer) (p : Pen) (s : List ℕ) → Began f p s s
began_none f p s = record { is = ([], bytes_of (f p).forms, refl, sym (append-nil s)) }

-- all of it
pub began_all : {f : Writer} {p : Pen} {s : List ℕ} {q : Pen} {t : List ℕ} → Wrote f p s q t → Began f p s t
began_all {f = f} {p = p} h = record { is = (bytes_of (f p).forms, [], sym (append-nil _), h.text_is) }

pub began_first : {f : Writer} (g : Writer) {p : Pen} {s t : List ℕ} → Began f p s t → Began (f >> g) p s t
began_first {f = f} g {p = p} {s = s} {t = t} h = record { is = begun_first f g p s t h.is }

pub wrote_skip : (p : Pen) (s : List ℕ) → Wrote skip p s p s
unfolding skip
wrote_skip p s = record { pen_is = refl; text_is = sym (append-nil s) }

-- the same text after another one
pub wrote_behind : {f : Writer} {p : Pen} {s : List ℕ} {q : Pen} {u : List ℕ} (t : List ℕ) → Wrote f p s q u
    → Wrote f p (t ++ s) q (t ++ u)
wrote_behind {f = f} {p = p} {s = s} t a = record {
  pen_is = a.pen_is;
  text_is = ap (λ bs. t ++ bs) a.text_is ∙ sym (append_assoc t s (bytes_of (f p).forms));
}

-- ---- calls that append to a string

-- how many bytes two writers append
bytes_of_both : (f g : Writer) (p : Pen) → length (bytes_of ((f >> g) p).forms)
    ≡ length (bytes_of (f p).forms) + length (bytes_of (g (f p).pen).forms)
unfolding ◌>>◌
bytes_of_both f g p = ap length (bytes_of-joined (f p).forms (g (f p).pen).forms)
    ∙ length-append (bytes_of (f p).forms) (bytes_of (g (f p).pen).forms)

-- how many one has appended
bytes_of_wrote : {f : Writer} {p : Pen} {s : List ℕ} {q : Pen} {t : List ℕ} → Wrote f p s q t
    → length t ≡ length s + length (bytes_of (f p).forms)
bytes_of_wrote {f = f} {p = p} {s = s} h = ap length h.text_is ∙ length-append s (bytes_of (f p).forms)

module _ {Z : Type 0} where
  len_is : (s : String Z) → string_len s ≡ length (string_bytes s)
  len_is s = s.bytes.ok.0

  pub appended_both : {f g : Writer} {p : Pen} {s : String Z} {q : Pen} {t : String Z} {r : Pen} {u : String Z}
      → Appended f p s q t → Appended g q t r u → Appended (f >> g) p s r u
  appended_both a b = record {
    wrote = wrote_both a.wrote b.wrote;
    capacity = omega (arith, a.capacity, b.capacity);
  }

  pub appended_by : {f g : Writer} {p : Pen} {s : String Z} {q : Pen} {t : String Z} → g p ≡ f p
      → Appended f p s q t → Appended g p s q t
  appended_by e a = record { wrote = wrote_by e a.wrote; capacity = a.capacity }

  -- nothing is appended
  pub appended_none : {f : Writer} {p : Pen} (s : String Z) {q : Pen} → Wrote f p (string_bytes s) q (string_bytes s)
      → Appended f p s q s
  appended_none s h = record { wrote = h; capacity = omega arith }

  pub appended_skip : (p : Pen) (s : String Z) → Appended skip p s p s
  appended_skip p s = appended_none s (wrote_skip p (string_bytes s))

  -- of two calls the first is refused
  pub refused_first : {f : Writer} (g : Writer) {p : Pen} {s t : String Z} → Refused f p s t → Refused (f >> g) p s t
  refused_first {f = f} g {p = p} {s = s} {t = t} h =
      let both = bytes_of_both f g p in
      record {
        begun = begun_first f g p (string_bytes s) (string_bytes t) h.begun;
        full = omega (arith, h.full, both);
      }

  -- the second is
  pub refused_then : {f g : Writer} {p : Pen} {s : String Z} {q : Pen} {t u : String Z} → Appended f p s q t
      → Refused g q t u → Refused (f >> g) p s u
  refused_then {f = f} {g = g} {p = p} {s = s} {q = q} {t = t} {u = u} a h =
      let both = bytes_of_both f g p in
      let first = bytes_of_wrote a.wrote in
      let second = ap (λ x. length (bytes_of (g x).forms)) a.wrote.pen_is in
      record {
        begun = begun_then f g p (string_bytes s) q (string_bytes t) (string_bytes u) a.wrote h.begun;
        full = omega (arith, both, first, second, a.capacity, h.full, len_is s, len_is t);
      }

  pub refused_by : {f g : Writer} {p : Pen} {s t : String Z} → g p ≡ f p → Refused f p s t → Refused g p s t
  refused_by {p = p} {s = s} {t = t} e h = record {
    begun = subst (λ (d : Drawn). IsBegun (string_bytes s) (bytes_of d.forms) (string_bytes t)) (sym e) h.begun;
    full = subst (λ (d : Drawn). string_capacity s < string_len s + length (bytes_of d.forms)) (sym e) h.full;
  }

  -- then the ones after it aren't made
  pub refused : {X E : Type 0} (r : Result X E) {f : Writer} (h : Writer) (p : Pen) {s : String Z} (q : Pen)
      {t : String Z} → IsErr r → h p ≡ f p → Refused f p s t → Writes h p s (is_ok r) q t
  refused (Ok x) h p q failed e b = absurd (false≢true failed)
  refused (Err x) h p q failed e b = refused_by e b

  -- of a single call that is refused, nothing is appended
  pub refused_whole : {X E : Type 0} (r : Result X E) (h : Writer) (p : Pen) (s : String Z) (q : Pen) (t : String Z)
      (text : List ℕ) → IsErr r → text ≡ bytes_of (h p).forms → string_bytes t ≡ string_bytes s
      → string_capacity s < string_len s + length text → Writes h p s (is_ok r) q t
  refused_whole (Ok x) h p s q t text failed e same full = absurd (false≢true failed)
  refused_whole (Err x) h p s q t text failed e same full = record {
    begun = ([], bytes_of (h p).forms, refl, same ∙ sym (append-nil (string_bytes s)));
    full = subst (λ bs. string_capacity s < string_len s + length bs) e full;
  }

  -- what was written to an empty run is appended at once
  pub appended_run : {f : Writer} {p : Pen} {r : List ℕ} {q : Pen} {u : List ℕ} (s t : String Z) → r ≡ []
      → Wrote f p r q u → string_bytes t ≡ string_bytes s ++ u → string_capacity s ≤ string_capacity t
      → Appended f p s q t
  appended_run {f = f} {p = p} s t empty a e room = record {
    wrote = record {
      pen_is = a.pen_is;
      text_is = e ∙ ap (λ bs. string_bytes s ++ bs) (a.text_is ∙ ap (λ bs. bs ++ bytes_of (f p).forms) empty);
    };
    capacity = room;
  }

  pub refused_run : {X E : Type 0} (x : Result X E) {f : Writer} {p : Pen} {r : List ℕ} {q : Pen} {u : List ℕ}
      (v : Pen) (s t : String Z) → IsErr x → r ≡ [] → Wrote f p r q u → string_bytes t ≡ string_bytes s
      → string_capacity s < string_len s + length u → Writes f p s (is_ok x) v t
  refused_run x {f = f} {p = p} v s t failed empty a same full =
      refused_whole x f p s v t _ failed (a.text_is ∙ ap (λ bs. bs ++ bytes_of (f p).forms) empty) same full

  pub writes_last : {f : Writer} {s : String Z} {q : Pen} {t : String Z} (h : Writer) (p : Pen) (g : Writer)
      (ok : Bool) (r : Pen) (u : String Z) → h p ≡ (f >> g) p → Appended f p s q t → Writes g q t ok r u
      → Writes h p s ok r u
  writes_last h p g true r u e a b = appended_by e (appended_both a b)
  writes_last h p g false r u e a b = refused_by e (refused_then a b)

  -- a prefix of a text is appended, up to bytes that don't fit
  pub full_within : (s t : String Z) (more text : List ℕ) → string_capacity s ≤ string_capacity t
      → string_capacity t < string_len t + length more → IsBegun (string_bytes s) text (string_bytes t ++ more)
      → string_capacity s < string_len s + length text
  full_within s t more text room full h =
      let texts = ap length h.2 ∙ length-append h.0 h.1 in
      let now = sym (length-append (string_bytes t) more) ∙ ap length h.3 ∙ length-append (string_bytes s) h.0 in
      omega (arith, texts, now, room, full, len_is s, len_is t)

-- ---- several columns

pub wrote_columns_none : (j : RowChange) (p : Pen) (s : List ℕ) → Wrote (columns j 0) p s p s
unfolding columns
wrote_columns_none j p s = wrote_skip p s

-- one column more
pub wrote_columns_next : {p q r : Pen} {s t u : List ℕ} (j : RowChange) (n : ℕ) → Wrote (columns j n) p s q t
    → Wrote (column j (j.start + n)) q t r u → Wrote (columns j (n + 1)) p s r u
unfolding columns
wrote_columns_next {p = p} {r = r} {s = s} {u = u} j n a b =
    let next : suc n ≡ n + 1 = omega arith in
    let both : Wrote (columns j (suc n)) p s r u = wrote_both a b in
    subst (λ k. Wrote (columns j k) p s r u) next both

-- a prefix of what fewer columns append is one of what more columns do
began_columns : {p : Pen} {s t : List ℕ} (j : RowChange) (n m : ℕ) → n ≤ m → Began (columns j n) p s t
    → Began (columns j m) p s t
unfolding columns
began_columns {p = p} {s = s} {t = t} j n zero le h =
    let all : n ≡ 0 = omega (arith, le) in subst (λ k. Began (columns j k) p s t) all h
began_columns {p = p} {s = s} {t = t} j n (suc m) le h =
    elim (cases_lt n (m + 1)) [
      | inl before ↦ began_first _ (began_columns j n m (omega (arith, before)) h)
      | inr after ↦ (let all : n ≡ suc m = omega (arith, le, after) in subst (λ k. Began (columns j k) p s t) all h)
    ]

-- all of fewer columns
pub began_columns_all : {p q : Pen} {s t : List ℕ} (j : RowChange) (n m : ℕ) → n ≤ m → Wrote (columns j n) p s q t
    → Began (columns j m) p s t
began_columns_all j n m le h = began_columns j n m le (began_all h)

-- the bytes of the columns so far are appended, or none of those that were still to come
pub began_columns_moved : {p q : Pen} {s t u : List ℕ} (j : RowChange) (n m : ℕ) (r : List ℕ) → n ≤ m
    → Wrote (columns j n) p s q (t ++ r) → Began (columns j m) p s t → (u ≡ t) ⊎ (u ≡ t ++ r)
    → Began (columns j m) p s u
began_columns_moved {p = p} {s = s} j n m r le h begun moved =
    elim moved [
      | inl none ↦ subst (λ v. Began (columns j m) p s v) (sym none) begun
      | inr all ↦ subst (λ v. Began (columns j m) p s v) (sym all) (began_columns_all j n m le h)
    ]

-- ---- single forms

pub wrote_goto : (row col : ℕ) (p : Pen) (s t : List ℕ)
    → t ≡ s ++ bytes_of (moves p.pos (record { row = row; col = col }))
    → Wrote (goto row col) p s (record p { pos = record { row = row; col = col } }) t
unfolding goto
wrote_goto row col p s t h = record { pen_is = refl; text_is = h }

stays : (q : Pos) → moves q q ≡ []
stays q = rw (ne_eqb q.row (q.row + 1) (λ e. omega (arith, e)), eq-eqb q.row q.row refl, eq-eqb q.col q.col refl) refl

unchanged : (a : Attrs) → change a a ≡ []
unchanged a = rw (attrs_eq-refl a) refl

-- the cursor is there already
pub goto_here : (p : Pen) (pos : Pos) (s : List ℕ) → p.pos ≡ pos → Wrote (goto pos.row pos.col) p s p s
unfolding goto
goto_here p pos s e = record {
  pen_is = λ i. record p { pos = sym e i };
  text_is = sym (append-nil s) ∙ ap (λ fs. s ++ bytes_of fs) (sym (stays p.pos) ∙ ap (moves p.pos) e);
}

pub wrote_goto_here : (p : Pen) (pos : Pos) (s : List ℕ) → ((p.pos.row == pos.row) && (p.pos.col == pos.col)) ≡ true
    → Wrote (goto pos.row pos.col) p s p s
wrote_goto_here p pos s h =
    let both = and_parts (p.pos.row == pos.row) (p.pos.col == pos.col) h in
    let rows = eqb-true p.pos.row pos.row both.0 in
    let cols = eqb-true p.pos.col pos.col both.1 in
    goto_here p pos s (λ i. record { row = rows i; col = cols i })

pub wrote_color : (a : Attrs) (p : Pen) (s t : List ℕ) → t ≡ s ++ bytes_of (change p.attrs a)
    → Wrote (color a) p s (record p { attrs = a }) t
unfolding color
wrote_color a p s t h = record { pen_is = refl; text_is = h }

-- the terminal draws with these attributes already
pub color_same : (p : Pen) (a : Attrs) (s : List ℕ) → p.attrs ≡ a → Wrote (color a) p s p s
unfolding color
color_same p a s e = record {
  pen_is = λ i. record p { attrs = sym e i };
  text_is = sym (append-nil s) ∙ ap (λ fs. s ++ bytes_of fs) (sym (unchanged p.attrs) ∙ ap (change p.attrs) e);
}

pub wrote_print : (x : CellView) (loses : Bool) (p : Pen) (s t : List ℕ) (col : ℕ) (lost : Bool)
    → t ≡ s ++ encode_utf8_all x.text → col ≡ p.pos.col + span_of x → lost ≡ (p.lost || loses)
    → Wrote (print x loses) p s (record p { pos = record (p.pos) { col = col }; lost = lost }) t
unfolding print
wrote_print x loses p s t col lost h e g = record {
  pen_is = λ i. record p { pos = record (p.pos) { col = sym e i }; lost = sym g i };
  text_is = h ∙ ap (λ bs. s ++ bs) (sym (append-nil (encode_utf8_all x.text)));
}

pub wrote_back : (p : Pen) (s t : List ℕ) (col : ℕ) → t ≡ s ++ bytes_of (Backspace ∷ []) → col ≡ p.pos.col - 1
    → Wrote back p s (record p { pos = record (p.pos) { col = col } }) t
unfolding back
wrote_back p s t col h e = record {
  pen_is = λ i. record p { pos = record (p.pos) { col = sym e i } };
  text_is = h;
}

pub wrote_erase : (n : ℕ) (loses : Bool) (p : Pen) (s t : List ℕ) (lost : Bool) → t ≡ s ++ bytes_of (EraseChar n ∷ [])
    → lost ≡ (p.lost || loses) → Wrote (erasing n loses) p s (record p { erase = None; lost = lost }) t
unfolding erasing
wrote_erase n loses p s t lost h g = record {
  pen_is = λ i. record p { erase = None; lost = sym g i };
  text_is = h;
}
