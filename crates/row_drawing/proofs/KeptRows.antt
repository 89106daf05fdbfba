-- Nothing is written for columns that stay, nor for a row that stays.
use Rattle.std.proofs.Common.{◌≡◌, ℕ, zero, suc, ◌+◌, ◌-◌, ◌≤◌, Bool, true, false, not, ◌&&◌, List, ◌++◌, ◌==◌}
use Rattle.std.proofs.Common.{refl, sym, ap, ◌∙◌, inl, inr, Some, None, arith, subst}
use Rattle.std.proofs.lemmas.Bool.Decides.{nat_tests}
use Rattle.std.proofs.lemmas.Bool.{cases_Bool}
use Rattle.vt100_cells.specs.CellEq.{attrs_eq-refl, cell_eq-refl}
use Rattle.vt100_cells.specs.Cell.{CellView, has_text, cell_eq, empty_cell}
use Rattle.vt100_cells.specs.Cells.{AreSame, cell_at}
use Rattle.row_drawing.specs.declared.drawing.Drawing.{Drawing}
use Rattle.row_drawing.specs.declared.pen.Erase.{Erase}
use Rattle.row_drawing.specs.declared.pen.Pen.{Pen}
use Rattle.row_drawing.specs.Drawing.{row_change_of, AreQuiet, IsSettled}
use Rattle.row_drawing.specs.Writer.{Drawn, Writer, ◌>>◌, skip}
use Rattle.row_drawing.specs.RowWriter.{RowChange, opening, flush, finish, draw, column, columns, closing, is_end}
use Rattle.row_drawing.specs.RowWriter.{owes_end, row_redraw, row_difference, IsRowShown}
use Rattle.row_drawing.specs.Writes.{Wrote}
use Rattle.row_drawing.specs.Laws.{EachKeptRowIsLeft}
use Rattle.row_drawing.proofs.Columns.{draw-is_same, draw-passes, flush-is_kept, flush-is_none, finish-is_none}
use Rattle.row_drawing.proofs.Columns.{column-is_half, column-is_whole}
use Rattle.row_drawing.proofs.RowEnd.{closing-none}
use Rattle.row_drawing.proofs.RowStart.{opening-none}
use Rattle.row_drawing.proofs.WritesLemmas.{wrote_by, wrote_columns_next, wrote_skip}

-- two writers that write nothing
skips-then : (f g : Writer) (p : Pen) → f p ≡ skip p → g p ≡ skip p → (f >> g) p ≡ skip p
unfolding ◌>>◌ skip
skips-then f g p e h =
    ap (λ (d : Drawn). record { pen = (g d.pen).pen; forms = d.forms ++ (g d.pen).forms }) e ∙ h

column-skips : (j : RowChange) (c : ℕ) (p : Pen) → flush j c p ≡ skip p → draw j c p ≡ skip p → column j c p ≡ skip p
column-skips j c p e h =
    elim (cases_Bool ((j.new c).continuation && not (c == j.start))) [
      | inl half ↦ column-is_half j c p half
      | inr whole ↦ column-is_whole j c p whole ∙ skips-then (flush j c) (draw j c) p e h
    ]

-- columns that the terminal shows already
pub same_is_quiet : (j : RowChange) (p : Pen) (a b : ℕ) → p.erase ≡ None → AreSame j.new j.old a b → AreQuiet j p a b
same_is_quiet j p a b closed same c h l =
    column-skips j c p (flush-is_none j c p closed)
    (draw-is_same j c p (ap (cell_eq (j.new c)) (sym (same c h l)) ∙ cell_eq-refl (j.new c)))

-- ---- what is erased with the columns before it

column-is_kept : (j : RowChange) (c : ℕ) (p : Pen) (e : Erase) → p.erase ≡ Some e → j.new c ≡ empty_cell e.attrs
    → column j c p ≡ skip p
column-is_kept j c p e h is =
    let blank : has_text (j.new c) ≡ false = ap has_text is in
    let goes : is_end (j.new c) e.attrs ≡ false =
    ap (λ x. is_end x e.attrs) is ∙ ap not (attrs_eq-refl e.attrs) in
    column-skips j c p (flush-is_kept j c p e _ h refl goes) (draw-passes j c p e h blank)

pub erased_is_quiet : (j : RowChange) (p : Pen) (a b : ℕ) (e : Erase) (x : CellView) → p.erase ≡ Some e
    → x ≡ empty_cell e.attrs → AreSame j.new (λ _. x) a b → AreQuiet j p a b
erased_is_quiet j p a b e x h is same c l k = column-is_kept j c p e h (same c l k ∙ is)

-- ---- several columns

quiet_more : {p q : Pen} {s t : List ℕ} (j : RowChange) (n k : ℕ) → AreQuiet j q (j.start + n) (j.start + (n + k))
    → Wrote (columns j n) p s q t → Wrote (columns j (n + k)) p s q t
quiet_more {p = p} {q = q} {s = s} {t = t} j n zero quiet h =
    let none : n ≡ n + 0 = omega arith in subst (λ m. Wrote (columns j m) p s q t) none h
quiet_more {p = p} {q = q} {s = s} {t = t} j n (suc k) quiet h =
    let more : n + k + 1 ≡ n + suc k = omega arith in
    subst (λ m. Wrote (columns j m) p s q t) more
    (wrote_columns_next j (n + k) (quiet_more j n k (λ c a b. quiet c a (omega (arith, b))) h)
    (wrote_by (quiet (j.start + (n + k)) (omega arith) (omega arith)) (wrote_skip q t)))

pub wrote_columns_quiet : {p q : Pen} {s t : List ℕ} (j : RowChange) (n m : ℕ) → n ≤ m
    → AreQuiet j q (j.start + n) (j.start + m) → Wrote (columns j n) p s q t → Wrote (columns j m) p s q t
wrote_columns_quiet {p = p} {q = q} {s = s} {t = t} j n m le quiet h =
    let all : n + (m - n) ≡ m = omega (arith, le) in
    subst (λ k. Wrote (columns j k) p s q t) all
    (quiet_more j n (m - n) (subst (λ k. AreQuiet j q (j.start + n) (j.start + k)) (sym all) quiet) h)

-- ---- the whole row

columns-kept : (j : RowChange) (n : ℕ) (p : Pen) → IsRowShown j p → columns j n p ≡ skip p
unfolding columns
columns-kept j zero p h = refl
columns-kept j (suc n) p h =
    skips-then (columns j n) (column j (j.start + n)) p (columns-kept j n p h)
    (same_is_quiet j p 0 (j.start + n + 1) h.closed (λ k _ _. h.cells k) (j.start + n) (omega arith) (omega arith))

unowed-end : (j : RowChange) (p : Pen) → IsRowShown j p → owes_end j p ≡ false
unowed-end j p h = grind (arith, nat_tests, h.flag, h.unlost)

redraw-kept : (j : RowChange) (n : ℕ) (p : Pen) → IsRowShown j p → row_redraw j n p ≡ skip p
unfolding row_redraw
redraw-kept j n p h =
    skips-then (opening j >> columns j n) (finish j) p
    (skips-then (opening j) (columns j n) p (opening-none j p h.unowed) (columns-kept j n p h))
    (finish-is_none j p h.closed)

pub difference-kept : EachKeptRowIsLeft
unfolding row_difference
difference-kept j n p h =
    skips-then (row_redraw j n) (closing j) p (redraw-kept j n p h) (closing-none j p (unowed-end j p h))

-- ---- the row, as the code appends it

settled-unowed : (above was : Bool) (b : Bool) → (above ≡ true → was ≡ true) → ((above && not was) && b) ≡ false
settled-unowed above was b h = grind (arith, nat_tests, h)

pub settled_kept : (d : Drawing) (p : Pen) → IsSettled d p → IsRowShown (row_change_of d) p
settled_kept d p h = record {
  cells = λ k. ap (λ cells. cell_at cells k) h.cells;
  flag = h.flag;
  unowed = settled-unowed d.above d.was_above _ h.above;
  closed = h.closed;
  unlost = h.unlost;
}

pub redraw-is : (j : RowChange) (n : ℕ) (p : Pen) → row_redraw j n p ≡ (opening j >> columns j n >> finish j) p
unfolding row_redraw
redraw-is j n p = refl

pub difference-is : (j : RowChange) (n : ℕ) (p : Pen) → row_difference j n p ≡ (row_redraw j n >> closing j) p
unfolding row_difference
difference-is j n p = refl

pub wrote_difference_kept : (j : RowChange) (n : ℕ) (p : Pen) (s : List ℕ) → IsRowShown j p
    → Wrote (row_difference j n) p s p s
wrote_difference_kept j n p s h = wrote_by (difference-kept j n p h) (wrote_skip p s)
