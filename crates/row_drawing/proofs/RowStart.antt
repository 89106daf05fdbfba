-- The start of a row that is drawn, and the whole row.
use Rattle.std.proofs.Common.{◌≡◌, ℕ, ◌+◌, ◌-◌, ◌<◌, ◌≤◌, ◌==◌, Bool, true, false, cond, not, ◌&&◌, ◌||◌, Option, None}
use Rattle.std.proofs.Common.{refl}
use Rattle.std.proofs.Common.{arith, sym, ap, ◌∙◌, inl, inr, subst, if◌then◌else◌}
use Rattle.std.proofs.lemmas.Bool.{cases_Bool, both_ways, and_parts, and_from}
use Rattle.std.proofs.lemmas.Bool.Decides.{nat_tests}
use Rattle.vt100_forms.specs.declared.attrs.Attrs.{Attrs}
use Rattle.vt100_forms.specs.Attrs.{IsProper}
use Rattle.vt100_cells.specs.CellEq.{cell_eq-true}
use Rattle.vt100_cells.specs.Cell.{CellView, empty_cell, cell_of, has_text}
use Rattle.vt100_cells.specs.Line.{span_of, put, put_unflags, wiped, wipe_unflags}
use Rattle.terminal_model.specs.Position.{update}
use Rattle.terminal_model.proofs.Positions.{update-kept}
use Rattle.row_drawing.specs.declared.pen.Erase.{Erase}
use Rattle.row_drawing.specs.declared.pen.Pen.{Pen}
use Rattle.row_drawing.specs.Writer.{◌>>◌, skip, turn, color, print, space, back, erasing}
use Rattle.row_drawing.specs.RowWriter.{RowChange, is_same, wraps, owes_flag, reprint, opening, columns}
use Rattle.row_drawing.specs.RowWriter.{row_redraw, row_difference, owes_end}
use Rattle.row_drawing.specs.Scene.{Scene, IsScene, IsReady, IsDrawn, with_row, flags_above}
use Rattle.row_drawing.specs.Laws.{EachDifferenceLeads}
use Rattle.row_drawing.proofs.Lines.{Line, space_narrow, line-begun, line-reprinted, spaced-half}
use Rattle.row_drawing.proofs.Steps.{pen, Flags, kept_or_off, flags-step}
use Rattle.row_drawing.proofs.LocalRow.{IsRoom, any-room, space-room, put-room, wipe-room}
use Rattle.row_drawing.proofs.RowReads.{Reads, reads-then, reads-as, reads-to, reads-skip, reads-turn, reads-color}
use Rattle.row_drawing.proofs.RowReads.{reads-back, reads-erasing, Ends, ends, ends-as, ends-next}
use Rattle.row_drawing.proofs.RowLeads.{at-row, flags-on, past, edge, Standing, At, After, WrapsNow, wraps-now}
use Rattle.row_drawing.proofs.RowLeads.{reads-print_turned}
use Rattle.row_drawing.proofs.RowLeads.{reads-space_turned}
use Rattle.row_drawing.proofs.Columns.{past-whole, empty-is, sends, room-for, span-wide, span-narrow, wipe-loses}
use Rattle.row_drawing.proofs.Columns.{columns-lead}
use Rattle.row_drawing.proofs.RowEnd.{IsFilled, finish-leads, closing-leads, span-few}

-- ---- the tests

waits-wraps : (j : RowChange) (n : ℕ) (p : Pen) → j.above ≡ true → p.pos.row + 1 ≡ j.row → p.pos.col ≡ j.cols → 0 < n
    → wraps j n p ≡ true
waits-wraps j n p above row col some = grind (arith, nat_tests)

pub opening-none : (j : RowChange) (p : Pen) → owes_flag j p ≡ false → opening j p ≡ skip p
unfolding opening
opening-none j p h = rw h refl

pub opening-some : (j : RowChange) (p : Pen) (x : CellView) → x ≡ j.new j.start → owes_flag j p ≡ true
    → opening j p ≡ (turn j.row >> color x.attrs >> reprint j x) p
unfolding opening
opening-some j p x is h = rw (is, h) refl

pub reprint-wide : (j : RowChange) (x : CellView) (p : Pen) → has_text x ≡ true → x.wide ≡ true
    → reprint j x p ≡ (print x false >> (back >> back)) p
unfolding reprint
reprint-wide j x p h g = rw (h, g) refl

pub reprint-narrow : (j : RowChange) (x : CellView) (p : Pen) → has_text x ≡ true → x.wide ≡ false
    → reprint j x p ≡ (print x false >> back) p
unfolding reprint
reprint-narrow j x p h g = rw (h, g) refl

pub reprint-some : (j : RowChange) (x : CellView) (p : Pen) → has_text x ≡ true
    → reprint j x p ≡ (print x false >> (if x.wide then (back >> back) else back)) p
unfolding reprint
reprint-some j x p h = rw h refl

pub reprint-empty : (j : RowChange) (x : CellView) (p : Pen) (b : Bool) → has_text x ≡ false
    → b ≡ wipe_unflags j.cols j.old 0 1 → reprint j x p ≡ (space >> back >> erasing 1 b) p
unfolding reprint
reprint-empty j x p b h e = rw (e, h) refl

-- ---- the first cell isn't printed once more

not-owed : (s : Scene) (p : Pen) → IsScene s → IsReady s p → owes_flag s.row_change p ≡ false
    → Standing s s.flags p (edge p.erase (past s.row_change 0))
not-owed s p h ready off =
    let j = s.row_change in
    elim (cases_Bool j.above) [
      | inr none ↦ inl (inl (sym (ap (λ b. cond b (update s.flags (j.row - 1) true) s.flags) none)))
      | inl above ↦ elim (cases_Bool j.was_above) [
        | inl known ↦ inl (inl (sym (flags-on s above
            ∙ update-kept s.flags (j.row - 1) true (sym (h.above_flag above known)))))
        | inr unset ↦
            (let place = ready.waits above unset in
            let owed = and_from j.above (not j.was_above) above (ap not unset) in
            inr (record {
              unset = refl;
              above = above;
              row = place.0;
              col = place.1;
              none = ap (λ e. edge e (past j 0)) ready.closed ∙ ap (λ b. cond b (0 + 1) 0) h.new.paired.first;
              differs = (elim (cases_Bool (is_same j 0)) [
                | inr differs ↦ differs
                | inl same ↦ absurd (both_ways (owes_flag j p) off (and_from (j.above && not j.was_above) _ owed
                    (and_from (is_same j j.start) _ (ap (is_same j) h.whole ∙ same)
                    (waits-wraps j (span_of (j.new j.start)) p above place.0 place.1 (span-few (j.new j.start)).0))))
              ]);
            }))
      ]
    ]

-- ---- the first cell once more

-- over itself, a wide cell empties nothing else
same_unflags : (s : Scene) → IsScene s → s.row_change.old 0 ≡ s.row_change.new 0
    → put_unflags s.row_change.cols s.row_change.old 0 (s.row_change.new 0) ≡ false
same_unflags s h same =
    let next = h.old.paired.next 0 in
    let blank = h.old.paired.blank 1 in
    grind (arith, nat_tests, next, blank)

-- a space is printed over the empty cell and erased
spaced-line : (s : Scene) (b : Attrs) → IsScene s → s.row_change.old 0 ≡ s.row_change.new 0
    → s.row_change.new 0 ≡ empty_cell (s.row_change.new 0).attrs
    → Line s.row_change.old s.row_change.new 0 (wiped (put s.row_change.old 0 (cell_of 32 b) b) 0 1
    (s.row_change.new 0).attrs)
spaced-line s b h same is =
    let j = s.row_change in
    let narrow : (j.old 0).wide ≡ false = ap (λ (x : CellView). x.wide) (same ∙ is) in
    let single = h.old.paired.next 0 ∙ narrow in
    let space = space_narrow b in
    record {
      written = λ k high. absurd (omega arith);
      rest = λ k low. grind (arith, nat_tests, space, single, narrow);
      here = λ q. grind (arith, nat_tests);
      broken = λ q. absurd (both_ways (j.old 0).continuation h.old.paired.first q);
    }

-- no column is drawn yet
begins : (s : Scene) (F : ℕ → Bool) (f : ℕ → CellView) (r k : ℕ) (a : Attrs) (lost : Bool) → IsScene s → IsProper a
    → Line s.row_change.old s.row_change.new 0 f → Standing s F (pen r k a None lost) (past s.row_change 0)
    → At s 0 (pen r k a None lost) (with_row s f F r k a)
begins s F f r k a lost h ha l standing =
    at-row F f ha (subst (λ m. Line s.row_change.old s.row_change.new m f)
    (sym (past-whole s.row_change 0 h.new.paired.first)) l) tt
    standing

module _ (s : Scene) (h : IsScene s) (C : ℕ → Type 0) (S : ℕ → ℕ → Type 0) (o : IsRoom s C S) where
  reprints-text : (r k : ℕ) (a : Attrs) (lost : Bool) → IsProper a → C 0 → s.row_change.old 0 ≡ s.row_change.new 0
      → has_text (s.row_change.new 0) ≡ true → WrapsNow s (span_of (s.row_change.new 0)) (pen r k a None lost) 0
      → Flags (update s.flags r true) (flags_above s) s.row_change.row lost
      → After S s 0 (turn s.row_change.row >> color (s.row_change.new 0).attrs >> reprint s.row_change
      (s.row_change.new 0))
      (pen r k a None lost) (with_row s s.row_change.old s.flags r k a)
  reprints-text r k a lost ha here same some now kept =
      let j = s.row_change in
      let x = j.new 0 in
      let fits = room-for s h 0 h.some_col in
      let begun = line-begun j.old j.new h.old.paired.first in
      let G : ℕ → Bool = update s.flags r true in
      let prints = reads-print_turned {S = S} s s.flags j.old r k x None lost false h now (sends s h 0 some)
      (omega (arith, fits))
      (put-room s C S h o 0 j.old begun h.new.paired.first h.some_col here) in
      let line : put j.old 0 x x.attrs ≡ j.old = ap (λ y. put j.old 0 y x.attrs) (sym same)
      ∙ line-reprinted j.old 0 x.attrs h.old.paired h.old.paired.first in
      let flags : kept_or_off (put_unflags j.cols j.old 0 x) G j.row ≡ G = ap (λ b. kept_or_off b G j.row)
      (same_unflags s h same) in
      let there : (n : ℕ) → span_of x ≡ n → Reads S s (print x false) (pen j.row 0 x.attrs None lost)
      (with_row s j.old s.flags r k x.attrs) (pen j.row (0 + n) x.attrs None (lost || false))
      (with_row s j.old G j.row (0 + n) x.attrs) = λ n span.
      reads-to (ap (λ i. pen j.row (0 + i) x.attrs None (lost || false)) span)
      (ap (λ i. with_row s (put j.old 0 x x.attrs) (kept_or_off (put_unflags j.cols j.old 0 x) G j.row) j.row (0 + i)
      x.attrs) span ∙ ap (λ f. with_row s f (kept_or_off (put_unflags j.cols j.old 0 x) G j.row) j.row (0 + n) x.attrs)
      line ∙ ap (λ F. with_row s j.old F j.row (0 + n) x.attrs) flags) prints in
      let once : Reads S s (reprint j x) (pen j.row 0 x.attrs None lost) (with_row s j.old s.flags r k x.attrs)
      (pen j.row 0 x.attrs None (lost || false)) (with_row s j.old G j.row 0 x.attrs) =
      (elim (cases_Bool x.wide) [
        | inl wide ↦ reads-as (reprint-wide j x _ some wide) (reads-then (there 2 (span-wide x wide))
            (reads-then (reads-back _) (reads-back _)))
        | inr narrow ↦ reads-as (reprint-narrow j x _ some narrow) (reads-then (there 1 (span-narrow x narrow))
            (reads-back _))
      ]) in
      ends (reads-then (reads-then reads-turn (reads-color _ ha (h.proper 0))) once)
      (begins s G j.old j.row 0 x.attrs (lost || false) h (h.proper 0) begun
      (inl (flags-step G (flags_above s) j.row lost false false kept (λ q. q))))

  reprints-empty : (r k : ℕ) (a : Attrs) (lost : Bool) → IsProper a → C 0 → s.row_change.old 0 ≡ s.row_change.new 0
      → has_text (s.row_change.new 0) ≡ false → WrapsNow s (span_of (s.row_change.new 0)) (pen r k a None lost) 0
      → Flags (update s.flags r true) (flags_above s) s.row_change.row lost
      → After S s 0 (turn s.row_change.row >> color (s.row_change.new 0).attrs >> reprint s.row_change
      (s.row_change.new 0))
      (pen r k a None lost) (with_row s s.row_change.old s.flags r k a)
  reprints-empty r k a lost ha here same none now kept =
      let j = s.row_change in
      let x = j.new 0 in
      let is : x ≡ empty_cell x.attrs = empty-is x (h.cells 0) none h.new.paired.first in
      let span : span_of x ≡ 1 = span-narrow x (ap (λ (y : CellView). y.wide) is) in
      let begun = line-begun j.old j.new h.old.paired.first in
      let G : ℕ → Bool = update s.flags r true in
      let g : ℕ → CellView = put j.old 0 (cell_of 32 x.attrs) x.attrs in
      let loses = wipe_unflags j.cols j.old 0 1 in
      let b = wipe_unflags j.cols g 0 1 in
      let half = spaced-half j.old j.new 1 x.attrs j.old h.old.paired begun (omega arith) in
      let zero : (i : ℕ) → 0 ≤ i → i < 1 → i ≡ 0 = λ i low high. omega (arith, high) in
      let spaces = reads-space_turned {S = S} s s.flags j.old r k x.attrs None lost h
      (subst (λ n. WrapsNow s n (pen r k a None lost) 0) span now) (space-room s C S h o j.old x.attrs begun here) in
      let wipes = wipe-room s C S h o 0 1 g x.attrs (λ i low. absurd (omega (arith, low))) half (omega arith)
      (omega (arith, h.some_col)) (λ i low high. ap j.new (zero i low high) ∙ is)
      (λ i low high. subst C (sym (zero i low high)) here) in
      ends (reads-then (reads-then reads-turn (reads-color _ ha (h.proper 0)))
      (reads-as (reprint-empty j x _ _ none refl) (reads-then (reads-then spaces (reads-back _))
      (reads-erasing g 1 loses 1 refl (omega (arith, h.some_col)) wipes))))
      (begins s (kept_or_off b G j.row) (wiped g 0 1 x.attrs) j.row 0 x.attrs (lost || loses) h (h.proper 0)
      (spaced-line s x.attrs h same is)
      (inl (flags-step G (flags_above s) j.row lost b loses kept (wipe-loses j.cols j.old g 0 1 half))))

  opening-at : (r k : ℕ) (a : Attrs) (lost : Bool) → IsProper a → IsReady s (pen r k a None lost)
      → (owes_flag s.row_change (pen r k a None lost) ≡ true → C 0)
      → After S s 0 (opening s.row_change) (pen r k a None lost) (with_row s s.row_change.old s.flags r k a)
  opening-at r k a lost ha ready first =
      let j = s.row_change in
      let p = pen r k a None lost in
      elim (cases_Bool (owes_flag j p)) [
        | inr off ↦ ends (reads-as (opening-none j p off) reads-skip) (begins s s.flags j.old r k a lost h ha
            (line-begun j.old j.new h.old.paired.first) (not-owed s p h ready off))
        | inl owed ↦
            (let parts = and_parts (j.above && not j.was_above) _ owed in
            let both = and_parts (is_same j j.start) _ parts.1 in
            let same : j.old 0 ≡ j.new 0 = sym (cell_eq-true (j.new 0) (j.old 0)
            (ap (is_same j) (sym h.whole) ∙ both.0)) in
            let turns : (wraps j (span_of (j.new 0)) p && (0 == 0)) ≡ true =
            and_from (wraps j (span_of (j.new 0)) p) (0 == 0) (ap (λ i. wraps j (span_of (j.new i)) p) (sym h.whole)
            ∙ both.1) refl in
            let now = wraps-now s (span_of (j.new 0)) p 0 turns in
            let kept : Flags (update s.flags r true) (flags_above s) j.row lost = inl
            (ap (λ i. update s.flags i true) (omega (arith, now.row)) ∙ sym (flags-on s now.above)) in
            ends-as {f = turn j.row >> color (j.new 0).attrs >> reprint j (j.new 0)}
            (opening-some j p (j.new 0) (ap j.new (sym h.whole)) owed)
            (elim (cases_Bool (has_text (j.new 0))) [
              | inl some ↦ reprints-text r k a lost ha (first owed) same some now kept
              | inr none ↦ reprints-empty r k a lost ha (first owed) same none now kept
            ]))
      ]

  opening-leads : (p : Pen) → IsReady s p → (owes_flag s.row_change p ≡ true → C 0)
      → After S s 0 (opening s.row_change) p (with_row s s.row_change.old s.flags p.pos.row p.pos.col p.attrs)
  opening-leads p ready first =
      let P : Option Erase → Type 0 = λ e. IsReady s (pen p.pos.row p.pos.col p.attrs e p.lost)
      → After S s 0 (opening s.row_change) (pen p.pos.row p.pos.col p.attrs e p.lost)
      (with_row s s.row_change.old s.flags p.pos.row p.pos.col p.attrs) in
      let base : P None = λ q. opening-at p.pos.row p.pos.col p.attrs p.lost ready.proper q first in
      (subst P (sym ready.closed) base) ready

  -- every column is drawn
  pub redraw-filled : (p : Pen) → IsReady s p → (owes_flag s.row_change p ≡ true → C 0)
      → Ends S s (IsFilled s) (row_redraw s.row_change s.row_change.cols) p
      (with_row s s.row_change.old s.flags p.pos.row p.pos.col p.attrs)
  unfolding row_redraw
  redraw-filled p ready first =
      let begun = opening-leads p ready first in
      let drawn : Ends S s (At s s.row_change.cols) (opening s.row_change >> columns s.row_change s.row_change.cols) p
      (with_row s s.row_change.old s.flags p.pos.row p.pos.col p.attrs) =
      ends-next _ begun.stays (columns-lead s h C S o _ _ begun.there s.row_change.cols (omega arith)) in
      ends-next _ drawn.stays (finish-leads s h C S o _ _ drawn.there)

  -- and the row has its flag
  pub difference-drawn : (p : Pen) → IsReady s p → (owes_flag s.row_change p ≡ true → C 0)
      → (owes_end s.row_change (row_redraw s.row_change s.row_change.cols p).pen ≡ true → C (s.row_change.cols - 1))
      → Ends S s (IsDrawn s) (row_difference s.row_change s.row_change.cols) p
      (with_row s s.row_change.old s.flags p.pos.row p.pos.col p.attrs)
  unfolding row_difference
  difference-drawn p ready first last =
      let filled = redraw-filled p ready first in
      ends-next _ filled.stays (closing-leads s h C S o _ _ filled.there last)

pub difference-leads : EachDifferenceLeads
difference-leads s p h ready = (difference-drawn s h _ _ (any-room s) p ready (λ _. tt) (λ _. tt)).there
