-- A row that wraps loses its flag, while its difference is written, only if one of its columns differs.
use Rattle.std.proofs.Common.{◌≡◌, ℕ, zero, suc, ◌+◌, ◌-◌, ◌<◌, ◌≤◌, ◌==◌, true, false, cond, not, ◌&&◌, ◌||◌}
use Rattle.std.proofs.Common.{Option, Some, None, refl, arith, sym, ap, ◌∙◌, inl, inr, subst}
use Rattle.std.proofs.lemmas.Bool.{cases_lt, both_ways, cond_both, and_parts, or_from, or_cases, false≢true}
use Rattle.std.proofs.lemmas.Bool.Decides.{nat_tests}
use Rattle.vt100_cells.specs.Cell.{CellView, empty_cell, has_text, is_filled}
use Rattle.vt100_cells.specs.Line.{wipe_unflags}
use Rattle.vt100_cells.specs.CellEq.{cell_eq-true, cell_eq-of_same}
use Rattle.row_drawing.specs.declared.pen.Erase.{Erase}
use Rattle.row_drawing.specs.declared.pen.Pen.{Pen}
use Rattle.row_drawing.specs.Writer.{Drawn, Writer, ◌>>◌, skip, goto, turn, color, print, space, back, erasing}
use Rattle.row_drawing.specs.RowWriter.{RowChange, is_same, owes_flag, reprint, opening, is_end, flush_of, flush}
use Rattle.row_drawing.specs.RowWriter.{finish_of, finish, draw, column, columns, last_col_of, last_cell_of, owes_end}
use Rattle.row_drawing.specs.RowWriter.{print_last, mend, closing, row_redraw, row_difference}
use Rattle.row_drawing.specs.Scene.{Scene, IsScene}
use Rattle.row_drawing.proofs.Columns.{empty-is}
use Rattle.row_drawing.proofs.RowEnd.{mend-wraps}
use Rattle.row_drawing.proofs.LocalColumns.{IsMarked, columns-marked}
use Rattle.row_drawing.proofs.Local.{opening-marked}

-- K is true if a column differs
abbrev pub IsCause : Type 0 → RowChange → Type 0
IsCause K j = (c : ℕ) → is_same j c ≡ false → K

-- K is true if the pen says that the flag is lost
abbrev IsBlamed : Type 0 → Pen → Type 0
IsBlamed K q = q.lost ≡ true → K

-- ---- columns

module _ (K : Type 0) (j : RowChange) (cause : IsCause K j) where
  draw-blamed : (c : ℕ) (q : Pen) → IsBlamed K q → IsBlamed K (draw j c q).pen
  unfolding draw skip
  draw-blamed c q b =
      cond_both (is_same j c) skip _ (λ (f : Writer). IsBlamed K (f q).pen) (λ _. b) (λ differs _. cause c differs)

  flush_of-blamed : (c : ℕ) (o : Option Erase) (q : Pen) → IsMarked j o → IsBlamed K q
      → IsBlamed K (flush_of j c o q).pen
  unfolding flush_of skip
  flush_of-blamed c None q m b = b
  flush_of-blamed c (Some e) q m b =
      cond_both (is_end (j.new c) e.attrs) _ skip (λ (f : Writer). IsBlamed K (f q).pen) (λ _ _. cause e.from m)
      (λ _. b)

  column-blamed : (c : ℕ) (q : Pen) → IsMarked j q.erase → IsBlamed K q → IsBlamed K (column j c q).pen
  unfolding column ◌>>◌ skip flush
  column-blamed c q m b =
      cond_both ((j.new c).continuation && not (c == j.start)) skip (flush j c >> draw j c)
      (λ (f : Writer). IsBlamed K (f q).pen) (λ _. b)
      (λ _. draw-blamed c (flush j c q).pen (flush_of-blamed c q.erase q m b))

  columns-blamed : (n : ℕ) (q : Pen) → IsMarked j q.erase → IsBlamed K q → IsBlamed K (columns j n q).pen
  unfolding columns ◌>>◌ skip
  columns-blamed zero q m b = b
  columns-blamed (suc n) q m b =
      column-blamed (j.start + n) (columns j n q).pen (columns-marked j n q m) (columns-blamed n q m b)

  finish_of-blamed : (o : Option Erase) (q : Pen) → IsMarked j o → IsBlamed K q → IsBlamed K (finish_of j o q).pen
  unfolding finish_of skip
  finish_of-blamed None q m b = b
  finish_of-blamed (Some e) q m b = λ _. cause e.from m

-- ---- the first cell once more

reprint-kept : (j : RowChange) (x : CellView) (p : Pen) → p.lost ≡ false
    → (has_text x ≡ false → wipe_unflags j.cols j.old 0 1 ≡ false) → (reprint j x p).pen.lost ≡ false
unfolding reprint ◌>>◌ print space back erasing
reprint-kept j x p kept keeps =
    let w = wipe_unflags j.cols j.old 0 1 in
    let still = or_from p.lost false kept refl in
    cond_both (has_text x) (print x false >> cond x.wide (back >> back) back) (space >> back >> erasing 1 w)
    (λ (f : Writer). (f p).pen.lost ≡ false)
    (λ _. cond_both x.wide (back >> back) back (λ (f : Writer). ((print x false >> f) p).pen.lost ≡ false) (λ _. still)
    (λ _. still)) (λ none. or_from p.lost w kept (keeps none))

opening-kept : (j : RowChange) (p : Pen) → p.lost ≡ false
    → (owes_flag j p ≡ true → has_text (j.new j.start) ≡ false → wipe_unflags j.cols j.old 0 1 ≡ false)
    → (opening j p).pen.lost ≡ false
unfolding opening ◌>>◌ turn color skip
opening-kept j p kept keeps =
    let x = j.new j.start in
    cond_both (owes_flag j p) ((turn j.row >> color x.attrs >> reprint j x) p) (skip p)
    (λ (d : Drawn). d.pen.lost ≡ false)
    (λ owed. reprint-kept j x (record p { pos = record { row = j.row; col = 0 }; attrs = x.attrs }) kept (keeps owed))
    (λ _. kept)

unflags-none : (n : ℕ) (f : ℕ → CellView) → 1 < n → (f 1).continuation ≡ false → wipe_unflags n f 0 1 ≡ false
unflags-none n f more single = grind (arith, nat_tests)

-- an empty first cell isn't the last one of a row that wraps, nor right before a second half
first-keeps : (s : Scene) (p : Pen) → IsScene s → s.row_change.wrapped ≡ true → owes_flag s.row_change p ≡ true
    → has_text (s.row_change.new s.row_change.start) ≡ false → wipe_unflags s.row_change.cols s.row_change.old 0 1
    ≡ false
first-keeps s p h on owed none =
    let j = s.row_change in
    let x = j.new 0 in
    let blank : has_text x ≡ false = ap (λ i. has_text (j.new i)) (sym h.whole) ∙ none in
    let is : x ≡ empty_cell x.attrs = empty-is x (h.cells 0) blank h.new.paired.first in
    let empty : is_filled x ≡ false = ap is_filled is in
    let same : x ≡ j.old 0 = cell_eq-true x (j.old 0) (ap (is_same j) (sym h.whole)
    ∙ (and_parts (is_same j j.start) _ (and_parts (j.above && not j.was_above) _ owed).1).0) in
    let narrow : (j.old 0).wide ≡ false = ap (λ (y : CellView). y.wide) (sym same ∙ is) in
    let more : 1 < j.cols = (elim (cases_lt 1 j.cols) [
      | inl less ↦ less
      | inr few ↦
          (let first : j.cols - 1 ≡ 0 = omega (arith, few) in
          absurd (both_ways (is_filled x) empty (ap (λ i. is_filled (j.new i)) (sym first) ∙ h.new.filled on)))
    ]) in
    unflags-none j.cols j.old more (h.old.paired.next 0 ∙ narrow)

-- ---- the last cell once more

closing-blamed : (K : Type 0) (j : RowChange) (q : Pen) → j.wrapped ≡ true → IsBlamed K q → IsBlamed K (closing j q).pen
unfolding closing ◌>>◌ goto print_last color print skip
closing-blamed K j q on b =
    let x = last_cell_of j in
    let u : Pen = record q { pos = record { row = j.row; col = last_col_of j } } in
    let or_none : (q.lost || false) ≡ true → K = λ e. (elim (or_cases q.lost false e) [
      | inl lost ↦ b lost
      | inr never ↦ absurd (false≢true never)
    ]) in
    cond_both (owes_end j q) ((goto j.row (last_col_of j) >> mend j x) q) (skip q) (λ (d : Drawn). IsBlamed K d.pen)
    (λ _. subst (λ (d : Drawn). IsBlamed K d.pen) (sym (mend-wraps j x u on))
    (cond_both (has_text x) (color x.attrs >> print x false) skip (λ (f : Writer). IsBlamed K (f u).pen) (λ _. or_none)
    (λ _. b)))
    (λ _. b)

-- ---- the row

pub lost-cause : (K : Type 0) (s : Scene) (p : Pen) → IsScene s → p.erase ≡ None → p.lost ≡ false
    → s.row_change.wrapped ≡ true → IsCause K s.row_change → (row_difference s.row_change s.row_change.cols p).pen.lost
    ≡ true → K
unfolding row_difference row_redraw ◌>>◌ finish
lost-cause K s p h closed kept on cause =
    let j = s.row_change in
    let q = (opening j p).pen in
    let u = (columns j j.cols q).pen in
    let m = opening-marked j p closed in
    let start : IsBlamed K q = λ lost. absurd (both_ways q.lost (opening-kept j p kept (first-keeps s p h on)) lost) in
    closing-blamed K j (finish j u).pen on
    (finish_of-blamed K j cause u.erase u (columns-marked j j.cols q m)
    (columns-blamed K j cause j.cols q m start))

-- what differs is a column of the row
pub inside-row : (s : Scene) → IsScene s → (k : ℕ) → is_same s.row_change k ≡ false → k < s.row_change.cols
inside-row s h k differs =
    let j = s.row_change in
    elim (cases_lt k j.cols) [
      | inl inside ↦ inside
      | inr outside ↦
          (let past : j.cols ≤ k = omega (arith, outside) in
          absurd (both_ways (is_same j k) differs (cell_eq-of_same (j.new k) (j.old k)
          (h.new.beyond k past ∙ sym (h.old.beyond k past)))))
    ]

pub other-cell : (j : RowChange) (k : ℕ) → is_same j k ≡ false → j.old k ≡ j.new k → ⊥
other-cell j k differs e = both_ways (is_same j k) differs (cell_eq-of_same (j.new k) (j.old k) (sym e))
