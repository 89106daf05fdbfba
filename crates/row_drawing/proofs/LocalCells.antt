-- A row's difference touches local cells.
use Rattle.std.proofs.Common.{◌≡◌, ℕ, zero, suc, ◌+◌, ◌-◌, ◌<◌, ◌==◌, Bool, true, false, not, ◌&&◌, ◌||◌}
use Rattle.std.proofs.Common.{Option, Some, None, refl, arith, sym, ap, ◌∙◌, inl, inr, subst}
use Rattle.std.proofs.lemmas.Bool.Decides.{nat_tests}
use Rattle.std.proofs.lemmas.Bool.{both_ways, cond_both, and_parts, not-true}
use Rattle.vt100_cells.specs.Cell.{is_filled, bool_eq}
use Rattle.vt100_cells.specs.CellEq.{cell_eq-of_same}
use Rattle.terminal_model.specs.Term.{Shown}
use Rattle.terminal_model.specs.Local.{IsNear, IsCloseCell, IsLocal}
use Rattle.row_drawing.specs.declared.pen.Erase.{Erase}
use Rattle.row_drawing.specs.declared.pen.Pen.{Pen}
use Rattle.row_drawing.specs.Writer.{Drawn, Writer, ◌>>◌, skip}
use Rattle.row_drawing.specs.RowWriter.{RowChange, is_same, owes_flag, opening, is_end, flush_of, flush}
use Rattle.row_drawing.specs.RowWriter.{finish_of, finish, draw, column, columns, owes_end, row_redraw}
use Rattle.row_drawing.specs.Scene.{Scene, IsScene, IsReady, scene_size}
use Rattle.row_drawing.specs.Laws.{IsPictured, EachDifferenceIsLocal}
use Rattle.row_drawing.proofs.LocalRow.{IsRoom, or-split}
use Rattle.row_drawing.proofs.LocalColumns.{IsMarked, columns-marked}
use Rattle.row_drawing.proofs.Local.{opening-marked}
use Rattle.row_drawing.proofs.RowStart.{difference-drawn}

-- ---- why a row may lose its flag

-- K is true where a column differs, or the first cell is printed once more
record IsCause (K : Type 0) (j : RowChange) (p : Pen) : Type 0 where
  differs : (c : ℕ) → is_same j c ≡ false → K
  owes : owes_flag j p ≡ true → K

abbrev IsBlamed : Type 0 → Pen → Type 0
IsBlamed K q = q.lost ≡ true → K

module _ (K : Type 0) (j : RowChange) (p : Pen) (h : IsCause K j p) where
  draw-blamed : (c : ℕ) (q : Pen) → IsBlamed K q → IsBlamed K (draw j c q).pen
  unfolding draw skip
  draw-blamed c q b =
      cond_both (is_same j c) skip _ (λ (f : Writer). IsBlamed K (f q).pen) (λ _. b) (λ differs _. h.differs c differs)

  flush_of-blamed : (c : ℕ) (o : Option Erase) (q : Pen) → IsMarked j o → IsBlamed K q
      → IsBlamed K (flush_of j c o q).pen
  unfolding flush_of skip
  flush_of-blamed c None q m b = b
  flush_of-blamed c (Some e) q m b =
      cond_both (is_end (j.new c) e.attrs) _ skip (λ (f : Writer). IsBlamed K (f q).pen) (λ _ _. h.differs e.from m)
      (λ _. b)

  column-blamed : (c : ℕ) (q : Pen) → IsMarked j q.erase → IsBlamed K q → IsBlamed K (column j c q).pen
  unfolding column ◌>>◌ skip flush
  column-blamed c q m b =
      cond_both ((j.new c).continuation && not (c == j.start)) skip (flush j c >> draw j c)
      (λ (f : Writer). IsBlamed K (f q).pen) (λ _. b)
      (λ _. draw-blamed c (flush j c q).pen (flush_of-blamed c q.erase q m b))

  columns-blamed : (n : ℕ) (q : Pen) → IsMarked j q.erase → IsBlamed K q → IsBlamed K (columns j n q).pen
  unfolding columns ◌>>◌ skip
  columns-blamed zero q m b = b
  columns-blamed (suc n) q m b =
      column-blamed (j.start + n) (columns j n q).pen (columns-marked j n q m) (columns-blamed n q m b)

  finish_of-blamed : (o : Option Erase) (q : Pen) → IsMarked j o → IsBlamed K q → IsBlamed K (finish_of j o q).pen
  unfolding finish_of skip
  finish_of-blamed None q m b = b
  finish_of-blamed (Some e) q m b = λ _. h.differs e.from m

  opening-blamed : p.lost ≡ false → IsBlamed K (opening j p).pen
  unfolding opening skip
  opening-blamed kept =
      cond_both (owes_flag j p) _ (skip p) (λ (d : Drawn). IsBlamed K d.pen) (λ owed _. h.owes owed)
      (λ _ lost. absurd (both_ways p.lost kept lost))

  lost-cause : (n : ℕ) → p.erase ≡ None → p.lost ≡ false → (row_redraw j n p).pen.lost ≡ true → K
  unfolding row_redraw ◌>>◌ finish
  lost-cause n closed kept =
      let q = (opening j p).pen in
      let m = opening-marked j p closed in
      let u = (columns j n q).pen in
      finish_of-blamed u.erase u (columns-marked j n q m) (columns-blamed n q m (opening-blamed kept))

-- ---- two pictures

differs-there : (s : Scene) (old new : Shown) → IsPictured s old new → (k : ℕ) → is_same s.row_change k ≡ false
    → old.cell s.row_change.row k ≡ new.cell s.row_change.row k → ⊥
differs-there s old new h k differs e =
    let j = s.row_change in
    let same : j.new k ≡ j.old k = ap (λ f. f k) (sym h.new_cells) ∙ sym e ∙ ap (λ f. f k) h.old_cells in
    both_ways (is_same j k) differs (cell_eq-of_same (j.new k) (j.old k) same)

row-room : (s : Scene) (old new : Shown) → IsPictured s old new
    → IsRoom s (IsCloseCell (scene_size s) old new s.row_change.row) (IsLocal (scene_size s) old new)
row-room s old new h =
    let j = s.row_change in
    let r = j.row in
    let C = IsCloseCell (scene_size s) old new r in
    record {
      close = λ k low c. inl c;
      second = λ k low c wide.
          let back_one : k ≡ k + 1 - 1 = omega arith in
          let halves : ((old.cell r k).wide || (new.cell r k).wide) ≡ true =
          ap (λ f. (f k).wide || (new.cell r k).wide) h.old_cells ∙ ap (λ f. (j.old k).wide || (f k).wide) h.new_cells
          ∙ wide in
          inr (inl (
            omega arith,
            subst (λ i. ((old.cell r i).wide || (new.cell r i).wide) ≡ true) back_one halves,
            subst C back_one c,
          ));
      first = λ k low c half.
          inr (inr (
            ap (λ f. (f (k + 1)).continuation || (new.cell r (k + 1)).continuation) h.old_cells
                ∙ ap (λ f. (j.old (k + 1)).continuation || (f (k + 1)).continuation) h.new_cells ∙ half,
            c,
          ));
      differs = λ k low q. inl (differs-there s old new h k q);
      empty = λ c k low q high blank.
          inr (inl (inl (c, low, differs-there s old new h c q)), inl (ap (λ f. is_filled (f k)) h.new_cells ∙ blank));
    }

-- the row or the one above differs
near-first : (s : Scene) (old new : Shown) (p : Pen) → IsPictured s old new → owes_flag s.row_change p ≡ true
    → IsNear (scene_size s) old new s.row_change.row
near-first s old new p h owed =
    let above = and_parts s.row_change.above (not s.row_change.was_above)
    (and_parts (s.row_change.above && not s.row_change.was_above) _ owed).0 in
    h.above above.0 (not-true s.row_change.was_above above.1)

inside-row : (s : Scene) → IsScene s → (k : ℕ) → is_same s.row_change k ≡ false → k < s.row_change.cols
inside-row s h k differs =
    grind (arith, nat_tests, cell_eq-of_same (s.row_change.new k) (s.row_change.old k), h.new.beyond k, h.old.beyond k)

near-cause : (s : Scene) (old new : Shown) (p : Pen) → IsScene s → IsPictured s old new
    → IsCause (IsNear (scene_size s) old new s.row_change.row) s.row_change p
near-cause s old new p scene h = record {
  differs = λ c q. inl (inl (c, inside-row s scene c q, differs-there s old new h c q));
  owes = near-first s old new p h;
}

flags-apart : (a b : Bool) → not (bool_eq a b) ≡ true → a ≡ b → ⊥
flags-apart a b h e = grind (arith, nat_tests)

near-last : (s : Scene) (old new : Shown) (p : Pen) → IsScene s → IsReady s p → IsPictured s old new
    → owes_end s.row_change (row_redraw s.row_change s.row_change.cols p).pen ≡ true → IsNear (scene_size s) old new
    s.row_change.row
near-last s old new p scene ready h needs =
    let j = s.row_change in
    let q = (row_redraw j j.cols p).pen in
    elim (or-split (not (bool_eq j.wrapped j.was_wrapped)) (j.wrapped && q.lost) needs) [
      | inl flag ↦ inl (inr (λ e. flags-apart j.wrapped j.was_wrapped flag (sym h.new_flag ∙ sym e ∙ h.old_flag)))
      | inr lost ↦ lost-cause _ j p (near-cause s old new p scene h) j.cols ready.closed ready.kept
          (and_parts j.wrapped q.lost lost).1
    ]

pub difference-local : EachDifferenceIsLocal
difference-local s old new p scene ready h =
    let j = s.row_change in
    let z = scene_size s in
    let end : j.cols - 1 + 1 ≡ j.cols = omega (arith, scene.some_col) in
    (difference-drawn s scene (IsCloseCell z old new j.row) (IsLocal z old new) (row-room s old new h) p ready
    (λ owed. inr (near-first s old new p h owed, inr (inl refl)))
    (λ needs. inr (near-last s old new p scene ready h needs, inr (inr end)))).stays
