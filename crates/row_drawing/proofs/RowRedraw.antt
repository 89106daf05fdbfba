-- The redraw of a row that wraps ends at the row's end.
use Rattle.std.proofs.Common.{◌≡◌, ℕ, suc, ◌+◌, ◌==◌, Bool, true, false, not, ◌&&◌}
use Rattle.std.proofs.Common.{Option, Some, None, refl, arith, sym, ap, ◌∙◌, inl, inr, subst}
use Rattle.std.proofs.lemmas.Bool.{and_from, cases_Bool, both_ways, or_left, false≢true}
use Rattle.vt100_forms.specs.declared.attrs.Attrs.{Attrs}
use Rattle.vt100_forms.specs.Attrs.{attrs_eq}
use Rattle.vt100_cells.specs.CellEq.{cell_eq-true}
use Rattle.vt100_cells.specs.Cell.{has_text, default_cell}
use Rattle.vt100_cells.specs.Line.{span_of}
use Rattle.row_drawing.specs.declared.pen.Erase.{Erase}
use Rattle.row_drawing.specs.declared.pen.Pen.{Pen}
use Rattle.row_drawing.specs.Writer.{Drawn, ◌>>◌, skip, color, print, erasing}
use Rattle.row_drawing.specs.RowWriter.{RowChange, is_same, wraps, flush, draw}
use Rattle.row_drawing.specs.RowWriter.{column, columns, opening, last_col_of, last_cell_of, row_redraw}
use Rattle.row_drawing.specs.Scene.{Scene, IsScene, flags_above}
use Rattle.row_drawing.specs.Laws.{EachRedrawLeads}
use Rattle.row_drawing.proofs.Steps.{pen}
use Rattle.row_drawing.proofs.RowLeads.{arrive-pen}
use Rattle.row_drawing.proofs.Columns.{finish-is_none, flush-is_none, flush-is_ended, draw-full, column-is_whole}
use Rattle.row_drawing.proofs.Columns.{column-is_half}
use Rattle.row_drawing.proofs.Columns.{not-first, span-wide, span-narrow}
use Rattle.row_drawing.proofs.RowEnd.{last-is, last-text, flags-off, flags-kept}
use Rattle.row_drawing.proofs.RowStart.{redraw-filled}
use Rattle.row_drawing.proofs.LocalRow.{any-room}

-- the pen is at column n, and no column is pending
record IsBehind (j : RowChange) (n : ℕ) (p : Pen) : Type 0 where
  row : p.pos.row ≡ j.row
  col : p.pos.col ≡ n
  closed : p.erase ≡ None

flushed : (j : RowChange) (n r k : ℕ) (a : Attrs) (e : Option Erase) (b : Bool) → has_text (j.new n) ≡ true
    → (flush j n (pen r k a e b)).pen.erase ≡ None
unfolding ◌>>◌ skip erasing
flushed j n r k a None b some = ap (λ (d : Drawn). d.pen.erase) (flush-is_none j n _ refl)
flushed j n r k a (Some e) b some =
    ap (λ (d : Drawn). d.pen.erase) (flush-is_ended j n _ e _ _ _ refl refl
    (or_left (has_text (j.new n)) (not (attrs_eq (j.new n).attrs e.attrs)) some) refl refl)

drawn-behind : (s : Scene) (n : ℕ) (p : Pen) → is_same s.row_change n ≡ false → has_text (s.row_change.new n) ≡ true
    → p.erase ≡ None → IsBehind s.row_change (n + span_of (s.row_change.new n)) (draw s.row_change n p).pen
unfolding ◌>>◌ color print
drawn-behind s n p differs some closed =
    let j = s.row_change in
    let is = draw-full j n p _ _ _ refl differs some refl refl in
    let there = arrive-pen j n (span_of (j.new n)) p in
    record {
      row = ap (λ (d : Drawn). d.pen.pos.row) is ∙ ap (λ (x : Pen). x.pos.row) there;
      col = ap (λ (d : Drawn). d.pen.pos.col) is ∙ ap (λ (x : Pen). x.pos.col + span_of (j.new n)) there;
      closed = ap (λ (d : Drawn). d.pen.erase) is ∙ ap (λ (x : Pen). x.erase) there ∙ closed;
    }

column-behind : (s : Scene) (n : ℕ) (p : Pen) → is_same s.row_change n ≡ false → has_text (s.row_change.new n) ≡ true
    → (s.row_change.new n).continuation ≡ false → IsBehind s.row_change (n + span_of (s.row_change.new n))
    (column s.row_change n p).pen
unfolding ◌>>◌
column-behind s n p differs some single =
    let j = s.row_change in
    let q = (flush j n p).pen in
    subst (λ (d : Drawn). IsBehind j (n + span_of (j.new n)) d.pen) (sym
    (column-is_whole j n p (ap (λ b. b && not (n == j.start)) single)))
    (drawn-behind s n q differs some (flushed j n p.pos.row p.pos.col p.attrs p.erase p.lost some))

-- if the last cell is drawn, it is drawn last
columns-behind : (s : Scene) (p : Pen) → IsScene s → is_same s.row_change (last_col_of s.row_change) ≡ false
    → has_text (last_cell_of s.row_change) ≡ true → IsBehind s.row_change s.row_change.cols
    (columns s.row_change s.row_change.cols p).pen
unfolding columns ◌>>◌ skip
columns-behind s p h differs some =
    let j = s.row_change in
    let c = last_col_of j in
    let last = last-is s h in
    let here : c ≡ j.start + c = omega (arith, h.whole) in
    let at_last : (q : Pen) → IsBehind j j.cols (column j (j.start + c) q).pen = λ q.
    subst (λ i. IsBehind j j.cols (column j i q).pen) here
    (subst (λ n. IsBehind j n (column j c q).pen) last.up_to (column-behind s c q differs some last.whole)) in
    let one : IsBehind j j.cols (columns j (suc c) p).pen = at_last (columns j c p).pen in
    elim (cases_Bool (last_cell_of j).wide) [
      | inr narrow ↦
          (let all : suc c ≡ j.cols = (let span = span-narrow (last_cell_of j) narrow in omega
          (arith, span, last.up_to)) in
          subst (λ n. IsBehind j j.cols (columns j n p).pen) all one)
      | inl wide ↦
          (let all : suc (suc c) ≡ j.cols = (let span = span-wide (last_cell_of j) wide in omega
          (arith, span, last.up_to))
          in
          let next : c + 1 ≡ j.start + suc c = omega (arith, h.whole) in
          let half : (j.new (j.start + suc c)).continuation ≡ true = ap (λ i. (j.new i).continuation) (sym next)
          ∙ h.new.paired.next c ∙ wide in
          let q = (columns j (suc c) p).pen in
          let stays = column-is_half j (j.start + suc c) q (and_from _ _ half
          (ap not (not-first s (j.start + suc c) h half))) in
          subst (λ n. IsBehind j j.cols (columns j n p).pen) all
          (subst (λ (d : Drawn). IsBehind j j.cols d.pen) (sym stays) one))
    ]

redraw-behind : (s : Scene) (p : Pen) → IsScene s → is_same s.row_change (last_col_of s.row_change) ≡ false
    → has_text (last_cell_of s.row_change) ≡ true → IsBehind s.row_change s.row_change.cols
    (row_redraw s.row_change s.row_change.cols p).pen
unfolding row_redraw ◌>>◌ skip
redraw-behind s p h differs some =
    let j = s.row_change in
    let q = (columns j j.cols (opening j p).pen).pen in
    let at_end = columns-behind s (opening j p).pen h differs some in
    subst (λ (d : Drawn). IsBehind j j.cols d.pen) (sym (finish-is_none j q at_end.closed)) at_end

-- if a row wraps, and no flag was set, its last cell is drawn last
redraw-waits : (s : Scene) (p : Pen) → IsScene s → ((k : ℕ) → s.row_change.old k ≡ default_cell) → s.row_change.wrapped
    ≡ true
    → IsBehind s.row_change s.row_change.cols (row_redraw s.row_change s.row_change.cols p).pen
redraw-waits s p h blank wraps =
    let j = s.row_change in
    let some = last-text s h (h.new.filled wraps) in
    let differs : is_same j (last_col_of j) ≡ false = (elim (cases_Bool (is_same j (last_col_of j))) [
      | inr differs ↦ differs
      | inl same ↦ absurd (both_ways (has_text (last_cell_of j)) (ap has_text
          (cell_eq-true (last_cell_of j) (j.old (last_col_of j)) same ∙ blank (last_col_of j))) some)
    ]) in
    redraw-behind s p h differs some

pub redraw-leads : EachRedrawLeads
redraw-leads s p h ready blank unflagged =
    let j = s.row_change in
    let q = (row_redraw j j.cols p).pen in
    let all = (redraw-filled s h _ _ (any-room s) p ready (λ _. tt)).there in
    record {
      flags = all.flags;
      state_after = all.state_after;
      proper = all.proper;
      closed = all.closed;
      flagged = (elim (cases_Bool j.wrapped) [
        | inr ends ↦ inl (flags-kept s all.flags q.lost h (ends ∙ sym unflagged) (λ e. ends) all.kept)
        | inl wraps ↦
            (let behind = redraw-waits s p h blank wraps in
            inr (wraps, behind.row, behind.col, flags-off all.flags (flags_above s) j.row q.lost true all.kept))
      ]);
      keeps = λ _ g. absurd (false≢true (sym (ap (λ b. b && not q.lost) unflagged) ∙ g));
      waits = λ wraps _. (let behind = redraw-waits s p h blank wraps in (behind.row, behind.col));
    }
