-- A row's writer, piece by piece, as the code appends it.
use Rattle.std.proofs.Common.{◌≡◌, ℕ, ◌+◌, ◌<◌, ◌≤◌, ◌==◌, true, false, ◌&&◌, not, List, ◌++◌}
use Rattle.std.proofs.Common.{arith, refl, sym, ap, ◌∙◌, append-nil, append_assoc, inl, inr, subst}
use Rattle.std.specs.Prelude.{length, encode_utf8_all, nat_lt}
use Rattle.std.proofs.lemmas.Bool.Decides.{nat_tests}
use Rattle.std.proofs.lemmas.Bool.{and_parts, cases_Bool, cond_both, ne_eqb}
use Rattle.vt100_forms.specs.declared.attrs.Attrs.{Attrs}
use Rattle.vt100_forms.specs.declared.position.Pos.{Pos}
use Rattle.vt100_cells.proofs.CellLemmas.{or-false}
use Rattle.vt100_cells.specs.Cell.{CellView, has_text}
use Rattle.vt100_cells.specs.CellEq.{attrs_eq-true}
use Rattle.vt100_cells.specs.Cells.{cell_at}
use Rattle.vt100_cells.specs.Line.{IsPaired, span_of}
use Rattle.vt100_cells.proofs.LineLemmas.{wide_within}
use Rattle.vt100_cells.proofs.ListLemmas.{Bounded-row}
use Rattle.row_drawing.specs.declared.pen.Pen.{Pen}
use Rattle.row_drawing.specs.Drawing.{behind, BeginsRun, GoesTo, IsAt, JoinsRun}
use Rattle.row_drawing.specs.Writer.{Writer, ◌>>◌, goto, turn, color, print, erasing, marking}
use Rattle.row_drawing.specs.RowWriter.{RowChange, arrive, column, last_col_of, unflag}
use Rattle.row_drawing.specs.Writes.{Wrote}
use Rattle.row_drawing.proofs.RowLeads.{arrive-pen, arrive-goto}
use Rattle.row_drawing.proofs.Columns.{column-is_half, column-is_whole, draw-full, flush-is_none}
use Rattle.row_drawing.proofs.WritesLemmas.{color_same, goto_here, wrote_both, wrote_by}
use Rattle.row_drawing.proofs.WritesLemmas.{wrote_columns_next, wrote_skip}

pub wrote_turn : (row : ℕ) (p : Pen) (s : List ℕ) (q : Pen) → q ≡ (turn row p).pen → Wrote (turn row) p s q s
unfolding turn
wrote_turn row p s q e = record { pen_is = sym e; text_is = sym (append-nil s) }

pub wrote_marking : (n : ℕ) (a : Attrs) (p : Pen) (s : List ℕ) (q : Pen) → q ≡ (marking n a p).pen
    → Wrote (marking n a) p s q s
unfolding marking
wrote_marking n a p s q e = record { pen_is = sym e; text_is = sym (append-nil s) }

-- the attributes of a cell, which are these
pub colored_as : {p q : Pen} {s t : List ℕ} {a b : Attrs} → a ≡ b → Wrote (color a) p s q t → Wrote (color b) p s q t
colored_as {p = p} {q = q} {s = s} {t = t} e w = subst (λ x. Wrote (color x) p s q t) e w

-- ---- where the cursor is

pub turned_col : (row : ℕ) (p q : Pen) → q ≡ (turn row p).pen → q.pos.col ≡ 0
unfolding turn
turned_col row p q e = ap (λ (x : Pen). x.pos.col) e

pub colored_col : {p q : Pen} {s t : List ℕ} (a : Attrs) → Wrote (color a) p s q t → q.pos.col ≡ p.pos.col
unfolding color
colored_col a w = ap (λ (x : Pen). x.pos.col) (sym w.pen_is)

-- at the start of a row two columns fit
pub turned_room : {q r : Pen} {s t : List ℕ} (row : ℕ) (a : Attrs) (p : Pen) → q ≡ (turn row p).pen
    → Wrote (color a) q s r t → r.pos.col + 2 < 65536
turned_room {q = q} row a p e w =
    let first = turned_col row p q e in
    let same = colored_col a w in
    omega (arith, first, same)

pub gone_col : {p q : Pen} {s t : List ℕ} (row col : ℕ) → Wrote (goto row col) p s q t → q.pos.col ≡ col
unfolding goto
gone_col row col w = ap (λ (x : Pen). x.pos.col) (sym w.pen_is)

pub unflagged_col : {p q : Pen} {s t : List ℕ} (x : CellView) → Wrote (unflag x) p s q t → q.pos.col ≡ p.pos.col
unfolding unflag ◌>>◌ color erasing
unflagged_col {p = p} x w =
    ap (λ (y : Pen). y.pos.col) (sym w.pen_is)
    ∙ cond_both (has_text x) (erasing 1 true) (color x.attrs >> erasing 1 true)
    (λ (f : Writer). (f p).pen.pos.col ≡ p.pos.col) (λ _. refl) (λ _. refl)

-- the attributes are set
pub drawn_here : {p q r : Pen} {s t u : List ℕ} (j : RowChange) (c n : ℕ) (a : Attrs) → Wrote (arrive j c n) p s q t
    → Wrote (color a) q t r u → IsAt j c r
unfolding color
drawn_here {p = p} j c n a e f =
    let pos = ap (λ (x : Pen). x.pos) (sym f.pen_is) ∙ ap (λ (x : Pen). x.pos) (sym e.pen_is ∙ arrive-pen j c n p) in
    record { row = ap (λ (x : Pos). x.row) pos; col = ap (λ (x : Pos). x.col) pos }

-- a cell of a row of few columns ends within the row
pub span_fits : (cells : List CellView) (n : ℕ) (x : CellView) (k : ℕ) → x ≡ cell_at cells n → length cells < 65536
    → IsPaired (cell_at cells) → n < length cells → k ≡ n → k + span_of x < 65536
span_fits cells n x k is few paired inside here =
    let within = wide_within (length cells) (cell_at cells) n (Bounded-row cells) paired in
    rw is (grind (arith, nat_tests, within))

-- the last cell is in the row
pub last_inside : (j : RowChange) (c : ℕ) → 0 < j.cols → c ≡ last_col_of j → c < j.cols
last_inside j c some e = rw e (grind (arith, nat_tests))

-- ---- a column that is drawn

wrote_arrive_here : (j : RowChange) (c n : ℕ) (p : Pen) (s : List ℕ) → IsAt j c p → Wrote (arrive j c n) p s p s
wrote_arrive_here j c n p s here =
    let below = here.row in
    wrote_by (arrive-goto j c n p (grind (arith, nat_tests)))
    (goto_here p (record { row = j.row; col = c }) s (λ i. record { row = here.row i; col = here.col i }))

-- the cursor moves there, the attributes are set, and then the text is printed
pub wrote_column_on : {p v r q : Pen} {s w u t : List ℕ} (j : RowChange) (c m : ℕ) (x : CellView) → x ≡ j.new c
    → m ≡ span_of x → BeginsRun j c p → Wrote (arrive j c m) p s v w → Wrote (color x.attrs) v w r u
    → Wrote (print x false) r u q t → Wrote (column j c) p s q t
wrote_column_on {p = p} {s = s} j c m x is span on arrived colored printed =
    let drawn = draw-full j c p x m false is on.other (ap has_text is ∙ on.filled) span (sym on.keeps) in
    wrote_by (column-is_whole j c p on.whole) (wrote_both (wrote_by (flush-is_none j c p on.closed) (wrote_skip p s))
    (wrote_by drawn (wrote_both (wrote_both arrived colored) printed)))

pub colored_attrs : {p r : Pen} {s u : List ℕ} (a : Attrs) → Wrote (color a) p s r u → r.attrs ≡ a
unfolding color
colored_attrs a h = sym (ap (λ (y : Pen). y.attrs) h.pen_is)

-- moving the cursor there leaves the attributes
pub arrived_attrs : {p v : Pen} {s w : List ℕ} (j : RowChange) (c n : ℕ) → Wrote (arrive j c n) p s v w → v.attrs
    ≡ p.attrs
arrived_attrs {p = p} j c n h = ap (λ (y : Pen). y.attrs) (sym h.pen_is ∙ arrive-pen j c n p)

-- ---- the text of one cell

pub wrote_text : {p q : Pen} (x : CellView) (t r u : List ℕ) → q ≡ (print x false p).pen
    → u ≡ r ++ encode_utf8_all x.text → Wrote (print x false) p (t ++ r) q (t ++ u)
unfolding print
wrote_text {p = p} x t r u pen text = record {
  pen_is = sym pen;
  text_is = ap (λ bs. t ++ bs) text ∙ sym (append_assoc t r (encode_utf8_all x.text))
      ∙ ap (λ bs. (t ++ r) ++ bs) (sym (append-nil (encode_utf8_all x.text)));
}

-- the pen after it
pub passed : (x : CellView) (p : Pen) (n : ℕ) → n ≡ span_of x
    → record p { pos = record (p.pos) { col = p.pos.col + n } } ≡ (print x false p).pen
unfolding print
passed x p n e =
    λ i. record p { pos = record (p.pos) { col = p.pos.col + e i }; lost = sym (or-false p.lost) i }

pub pass-attrs : (x : CellView) (p q : Pen) → q ≡ (print x false p).pen → q.attrs ≡ p.attrs
unfolding print
pass-attrs x p q e = ap (λ (r : Pen). r.attrs) e

-- it is drawn with the attributes of those before it
pub joined_attrs : {j : RowChange} {c : ℕ} {p : Pen} {a : Attrs} (x : CellView) → x ≡ j.new c → JoinsRun j c p a
    → a ≡ x.attrs
joined_attrs {a = a} x is h = sym (attrs_eq-true _ a h.attrs) ∙ ap (λ (y : CellView). y.attrs) (sym is)

-- a cell joins the run
pub wrote_joined : {j : RowChange} {c : ℕ} {p q : Pen} {a : Attrs} {s t : List ℕ} (x : CellView) → x ≡ j.new c → p.attrs
    ≡ a
    → JoinsRun j c p a → Wrote (print x false) p s q t → Wrote (column j c) p s q t
wrote_joined {j = j} {c = c} {p = p} {s = s} x is drawn h printed =
    wrote_column_on j c (span_of x) x is refl h.begins (wrote_arrive_here j c (span_of x) p s h.here)
    (color_same p x.attrs s (drawn ∙ joined_attrs x is h)) printed

-- ---- several columns

pub goes_none : {j : RowChange} {n : ℕ} {p : Pen} {s : List ℕ} → GoesTo j n n p s p s
goes_none = record { goes = λ p0 s0 w. w }

pub goes_then : {j : RowChange} {n m k : ℕ} {p q r : Pen} {s t u : List ℕ} → GoesTo j n m p s q t → GoesTo j m k q t r u
    → GoesTo j n k p s r u
goes_then a b = record { goes = λ p0 s0 w. b.goes p0 s0 (a.goes p0 s0 w) }

goes_next : {j : RowChange} {n m : ℕ} {p q r : Pen} {s t u : List ℕ} → GoesTo j n m p s q t
    → Wrote (column j (j.start + m)) q t r u → GoesTo j n (m + 1) p s r u
goes_next {j = j} {m = m} a b = record { goes = λ p0 s0 w. wrote_columns_next j m (a.goes p0 s0 w) b }

second_half : (j : RowChange) (m : ℕ) → IsPaired j.new → (j.new (j.start + m)).wide ≡ true
    → ((j.new (j.start + (m + 1))).continuation && not (j.start + (m + 1) == j.start)) ≡ true
second_half j m paired wide =
    let after : j.start + (m + 1) ≡ j.start + m + 1 = omega arith in
    let next : (j.new (j.start + (m + 1))).continuation ≡ true =
    ap (λ c. (j.new c).continuation) after ∙ paired.next (j.start + m) ∙ wide in
    let apart : (j.start + (m + 1) == j.start) ≡ false = ne_eqb (j.start + (m + 1)) j.start (λ f. omega (arith, f)) in
    rw (next, apart) refl

-- one cell more, with the second half of a wide one
pub goes_on : {j : RowChange} {n m : ℕ} {p q r : Pen} {s t u : List ℕ} (i k : ℕ) (x : CellView) → i ≡ behind x m k
    → IsPaired j.new → x ≡ j.new (j.start + m) → GoesTo j n m p s q t → Wrote (column j (j.start + m)) q t r u
    → GoesTo j n i p s r u
goes_on {j = j} {n = n} {m = m} {p = p} {r = r} {s = s} {u = u} i k x behind_is paired is a b =
    let next = goes_next a b in
    let moved : GoesTo j n (behind x m k) p s r u = (elim (cases_Bool (x.wide && nat_lt (m + 1) k)) [
      | inl both ↦ (let wide = ap (λ (y : CellView). y.wide) (sym is) ∙ (and_parts x.wide (nat_lt (m + 1) k) both).0 in
          let two : m + 1 + 1 ≡ m + 2 = omega arith in
          let half = wrote_by (column-is_half j _ r (second_half j m paired wide)) (wrote_skip r u) in
          rw both (subst (λ l. GoesTo j n l p s r u) two (goes_next next half)))
      | inr one ↦ rw one next
    ]) in
    subst (λ l. GoesTo j n l p s r u) (sym behind_is) moved

-- the next column is after it
pub behind-within : (x : CellView) (n k i : ℕ) → i ≡ behind x n k → n < k → (n < i) × (i ≤ k)
behind-within x n k i e inside = rw e (grind (arith, nat_tests), grind (arith, nat_tests))

-- the cursor is after it
pub here_behind : (j : RowChange) (n k i : ℕ) (p q : Pen) (x : CellView) → i ≡ behind x n k → q ≡ (print x false p).pen
    → IsAt j (j.start + n) p → i < k → IsAt j (j.start + i) q
unfolding print
here_behind j n k i p q x e pen here inside =
    let col = here.col in
    let next : p.pos.col + span_of x ≡ j.start + i = rw e (grind (arith, nat_tests)) in
    record { row = ap (λ (r : Pen). r.pos.row) pen ∙ here.row; col = ap (λ (r : Pen). r.pos.col) pen ∙ next }
