-- A row that is drawn.
use Rattle.std.proofs.Common.{◌≡◌, ℕ, ◌-◌, ◌≤◌, Bool, true, false, not, ◌&&◌, nat_lt, None, List, length, min, ap, cond}
use Rattle.std.proofs.Common.{refl}
use Rattle.std.proofs.lemmas.Bool.{le-ltb, cond_both, false≢true}
use Rattle.vt100_cells.specs.Cells.{cell_at}
use Rattle.row_drawing.specs.declared.pen.Pen.{Pen}
use Rattle.row_drawing.specs.Writer.{skip}
use Rattle.row_drawing.specs.RowWriter.{IsRowShown, row_redraw, row_difference}
use Rattle.row_drawing.specs.Writes.{Wrote}
use Rattle.row_drawing.proofs.KeptRows.{wrote_difference_kept}
use Rattle.row_drawing.proofs.WritesLemmas.{wrote_as, wrote_skip}
use Rattle.vt100_rows.specs.Row.{RowView}
use Rattle.vt100_rows.specs.Forms.{redraw_job, redraw, difference_job, difference}

-- nothing is drawn of a row that ends before the first column
pub wrote_row_none : (v : RowView) (start width row : ℕ) (above : Bool) (p : Pen) (s : List ℕ) → length v.cells ≤ start
    → Wrote (redraw v start width row above) p s p s
wrote_row_none v start width row above p s outside =
    wrote_as skip (redraw v start width row above) p s p s
    (ap (λ b. cond b (row_redraw (redraw_job v start row above) (min width (length v.cells - start))) skip p)
    (le-ltb start (length v.cells) outside)) (wrote_skip p s)

pub wrote_difference_none : (v earlier : RowView) (start width row : ℕ) (above was_above : Bool) (p : Pen) (s : List ℕ)
    → min (length v.cells) (length earlier.cells) ≤ start
    → Wrote (difference v earlier start width row above was_above) p s p s
wrote_difference_none v earlier start width row above was_above p s outside =
    let cols = min (length v.cells) (length earlier.cells) in
    wrote_as skip (difference v earlier start width row above was_above) p s p s
    (ap (λ b. cond b (row_difference (difference_job v earlier start row above was_above) (min width (cols - start)))
    skip p) (le-ltb start cols outside)) (wrote_skip p s)

unowed : (above was b : Bool) → (above ≡ true → was ≡ true) → ((above && not was) && b) ≡ false
unowed true true b h = refl
unowed true false b h = absurd (false≢true (h refl))
unowed false was b h = refl

-- nor of a row that the terminal shows, if the pen has nothing pending
pub wrote_difference_same : (v earlier : RowView) (start width row : ℕ) (above was_above : Bool) (p : Pen) (s : List ℕ)
    → v ≡ earlier → (above ≡ true → was_above ≡ true) → p.erase ≡ None → p.lost ≡ false
    → Wrote (difference v earlier start width row above was_above) p s p s
wrote_difference_same v earlier start width row above was_above p s e up closed kept =
    let cols = min (length v.cells) (length earlier.cells) in
    let row_change = difference_job v earlier start row above was_above in
    let shown : IsRowShown row_change p = record {
      cells = λ k. ap (λ (x : RowView). cell_at x.cells k) e;
      flag = ap (λ (x : RowView). x.wrapped) e;
      unowed = unowed above was_above _ up;
      closed = closed;
      unlost = kept;
    } in
    cond_both (nat_lt start cols) (row_difference row_change (min width (cols - start))) skip (λ f. Wrote f p s p s)
    (λ _. wrote_difference_kept row_change (min width (cols - start)) p s shown) (λ _. wrote_skip p s)
