-- The rows of a screen, drawn one after the other.
use Rattle.std.proofs.Common.{◌≡◌, ℕ, zero, suc, ◌+◌, ◌-◌, ◌<◌, ◌≤◌, Bool, true, false, cond, not, ◌&&◌}
use Rattle.std.proofs.Common.{None, refl, arith, sym, ap, subst, ◌∙◌, inl, inr}
use Rattle.std.proofs.lemmas.Bool.{cases_Bool, false≢true}
use mathlib.Core.Path.{fun_ext}
use Rattle.vt100_forms.specs.Attrs.{IsProper}
use Rattle.vt100_cells.specs.Cell.{CellView, default_cell, is_filled}
use Rattle.vt100_cells.specs.Line.{IsPaired}
use Rattle.terminal_model.specs.Position.{update, splice}
use Rattle.terminal_model.specs.Term.{Size, Shown, Term, IsShown, blank_shown}
use Rattle.terminal_model.specs.Apply.{run}
use Rattle.terminal_model.proofs.Positions.{update-same, update-other, update-kept, splice-none, splice-in, splice-past}
use Rattle.terminal_model.proofs.Positions.{splice-update, splice-whole}
use Rattle.terminal_model.proofs.FormLemmas.{run-joined}
use Rattle.row_drawing.specs.declared.pen.Pen.{Pen}
use Rattle.row_drawing.specs.Writer.{Drawn, ◌>>◌, skip}
use Rattle.row_drawing.specs.Scene.{Scene, IsScene, IsReady, IsDrawn, IsLine, with_row}
use Rattle.row_drawing.proofs.Steps.{at}
use Rattle.row_drawing.proofs.RowStart.{difference-leads}
use Rattle.row_drawing.proofs.RowRedraw.{redraw-leads}
use Rattle.screen_drawing.specs.Rows.{afresh, is_continued, RowWriters, next_row, in_turn, no_flags, row_job}
use Rattle.screen_drawing.specs.Rows.{redraws_of, rows_redraw, differences_of, rows_difference}
use Rattle.screen_drawing.specs.Laws.{IsDrawable, showing, EachRowsRedrawLeads, EachRowsDifferenceLeads}

-- ---- the row above

pub continued-later : (W : ℕ → Bool) (i : ℕ) → is_continued W i ≡ true → 0 < i
continued-later W zero h = absurd (false≢true h)
continued-later W (suc i) h = omega arith

continued-is : (W : ℕ → Bool) (i : ℕ) → 0 < i → is_continued W i ≡ W (i - 1)
continued-is W zero h = absurd (omega (arith, h))
continued-is W (suc i) h = let back : i ≡ suc i - 1 = omega arith in ap W back

-- ---- between two rows

-- The rows before i are drawn, and those from i on are as before. The last one that is drawn may lack its flag, if it
-- wraps; then the cursor is past its last column.
pub record Between (z : Size) (t : Term) (old new : Shown) (i : ℕ) (p : Pen) (u : Term) : Type 0 where
  pub flags : ℕ → Bool
  pub state_after : u ≡ at t (splice old.cell 0 i new.cell) flags p.pos.row p.pos.col p.attrs
  pub proper : IsProper p.attrs
  pub closed : p.erase ≡ None
  pub flagged : cond (is_continued new.wrapped i) (update flags (i - 1) true) flags ≡ splice old.wrapped 0 i new.wrapped
  pub keeps : is_continued new.wrapped i ≡ true → (is_continued old.wrapped i && not p.lost) ≡ true
      → flags (i - 1) ≡ true
  pub waits : is_continued new.wrapped i ≡ true → (is_continued old.wrapped i && not p.lost) ≡ false
      → (p.pos.row + 1 ≡ i) × (p.pos.col ≡ z.cols)

begun : (z : Size) (t : Term) (old new : Shown) (p : Pen) → IsProper p.attrs → p.erase ≡ None
    → Between z t old new 0 p (showing t old p)
begun z t old new p ha closed = record {
  flags = old.wrapped;
  state_after = ap (λ C. at t C old.wrapped p.pos.row p.pos.col p.attrs) (sym (splice-none old.cell 0 new.cell));
  proper = ha;
  closed = closed;
  flagged = sym (splice-none old.wrapped 0 new.wrapped);
  keeps = λ e _. absurd (false≢true e);
  waits = λ e _. absurd (false≢true e);
}

abbrev pub scene_of : Size → Term → Shown → Shown → ℕ → Bool → (ℕ → Bool) → Scene
scene_of z t old new i flagged F = record {
  rows = z.rows;
  row_change = row_job z old new i flagged;
  term = t;
  cells = splice old.cell 0 i new.cell;
  flags = F;
}

pub line-of : (z : Size) (s : Shown) (r : ℕ) → IsShown z s → IsLine z.cols (s.cell r) (s.wrapped r)
line-of z s r h = record { paired = h.paired r; beyond = h.beyond r; filled = h.filled r }

module _ (z : Size) (t : Term) (old new : Shown) (i : ℕ) (flagged : Bool) (p : Pen) (u : Term)
    (b : Between z t old new i p u) (reported : flagged ≡ (is_continued old.wrapped i && not p.lost)) where
  -- the flag of row i is that of the old screen
  own-flag : b.flags i ≡ old.wrapped i
  own-flag =
      let le : i ≤ i = omega arith in
      let all : cond (is_continued new.wrapped i) (update b.flags (i - 1) true) b.flags i ≡ old.wrapped i =
      ap (λ (G : ℕ → Bool). G i) b.flagged ∙ splice-past old.wrapped 0 i new.wrapped i le in
      elim (cases_Bool (is_continued new.wrapped i)) [
        | inl on ↦
            (let later = continued-later new.wrapped i on in
            sym (update-other b.flags (i - 1) i true (λ e. absurd (omega (arith, e, later))))
            ∙ ap (λ c. cond c (update b.flags (i - 1) true) b.flags i) (sym on) ∙ all)
        | inr off ↦ ap (λ c. cond c (update b.flags (i - 1) true) b.flags i) (sym off) ∙ all
      ]

  pub scene-is : IsShown z old → IsDrawable z new → i < z.rows
      → IsScene (scene_of z t old new i flagged b.flags)
  scene-is ho hn l = record {
    whole = refl;
    some_col = hn.shown.some_col;
    row_in = l;
    old = line-of z old i ho;
    new = line-of z new i hn.shown;
    cells = hn.cells i;
    plain = hn.plain i;
    proper = hn.proper i;
    flag = own-flag;
    below_first = continued-later new.wrapped i;
    above_filled = λ on.
        let later = continued-later new.wrapped i on in
        ap (λ (f : ℕ → CellView). is_filled (f (z.cols - 1)))
        (splice-in old.cell 0 i new.cell (i - 1) (omega arith) (omega (arith, later)))
        ∙ hn.shown.filled (i - 1) (sym (continued-is new.wrapped i later) ∙ on);
    above_flag = λ on k. b.keeps on (sym reported ∙ k);
  }

  pub ready-is : IsReady (scene_of z t old new i flagged b.flags) (afresh p)
  ready-is =
      record { closed = b.closed; kept = refl; proper = b.proper; waits = λ on k. b.waits on (sym reported ∙ k) }

  -- the terminal before row i, as the row's laws see it
  pub here-is : u
      ≡ with_row (scene_of z t old new i flagged b.flags) (old.cell i) b.flags p.pos.row p.pos.col p.attrs
  here-is =
      let le : i ≤ i = omega arith in
      b.state_after ∙ ap (λ C. at t C b.flags p.pos.row p.pos.col p.attrs)
      (sym (update-kept (splice old.cell 0 i new.cell) i (old.cell i)
      (sym (splice-past old.cell 0 i new.cell i le))))

  -- row i is drawn
  between-next : (d : Drawn)
      → IsDrawn (scene_of z t old new i flagged b.flags) d.pen (run z d.forms
      (with_row (scene_of z t old new i flagged b.flags) (old.cell i) b.flags p.pos.row p.pos.col p.attrs))
      → Between z t old new (suc i) d.pen (run z d.forms u)
  between-next drawn there =
      let s = scene_of z t old new i flagged b.flags in
      let q = drawn.pen in
      let d : IsDrawn s q (run z drawn.forms u) =
      subst (λ x. IsDrawn s q (run z drawn.forms x)) (sym here-is) there in
      let F = d.flags in
      let V = cond (is_continued new.wrapped i) (update b.flags (i - 1) true) b.flags in
      let w = new.wrapped i in
      let back : suc i - 1 ≡ i = omega arith in
      let next : i + 1 ≡ suc i = omega arith in
      let le : 0 ≤ i = omega arith in
      let full : update V i w ≡ splice old.wrapped 0 (suc i) new.wrapped =
      ap (λ G. update G i w) b.flagged ∙ splice-update old.wrapped 0 i new.wrapped w le refl
      ∙ ap (λ n. splice old.wrapped 0 n new.wrapped) next in
      record {
        flags = F;
        state_after = d.state_after ∙ ap (λ C. at t C F q.pos.row q.pos.col q.attrs)
            (splice-update old.cell 0 i new.cell (new.cell i) le refl
            ∙ ap (λ n. splice old.cell 0 n new.cell) next);
        proper = d.proper;
        closed = d.closed;
        flagged = (elim d.flagged [
          | inl e ↦ elim (cases_Bool w) [
            | inl on ↦ ap (λ c. cond c (update F (suc i - 1) true) F) on ∙ ap (λ k. update F k true) back
                ∙ update-kept F i true (sym (ap (λ (G : ℕ → Bool). G i) e ∙ update-same V i w ∙ on))
                ∙ e ∙ full
            | inr off ↦ ap (λ c. cond c (update F (suc i - 1) true) F) off ∙ e ∙ full
          ]
          | inr e ↦ ap (λ c. cond c (update F (suc i - 1) true) F) e.0 ∙ ap (λ k. update F k true) back
              ∙ e.3 ∙ ap (λ c. update V i c) (sym e.0) ∙ full
        ]);
        keeps = λ on k. ap F back ∙ d.keeps on k;
        waits = λ on k. (let place = d.waits on k in (omega (arith, place.0), place.1));
      }

-- ---- the last row is drawn

pub record IsDone (t : Term) (s : Shown) (p : Pen) (u : Term) : Type 0 where
  pub state_after : u ≡ showing t s p
  pub proper : IsProper p.attrs

ended : (z : Size) (t : Term) (old new : Shown) (p : Pen) (u : Term) → IsShown z old → IsShown z new
    → Between z t old new z.rows p u → IsDone t new p u
ended z t old new p u ho hn b =
    let cells : splice old.cell 0 z.rows new.cell ≡ new.cell = splice-whole old.cell z.rows new.cell
    (λ r l. fun_ext (λ k. ho.below r k l ∙ sym (hn.below r k l))) in
    let flags : splice old.wrapped 0 z.rows new.wrapped ≡ new.wrapped = splice-whole old.wrapped z.rows new.wrapped
    (λ r l. ho.below_flag r l ∙ sym (hn.below_flag r l)) in
    let off : is_continued new.wrapped z.rows ≡ false = continued-is new.wrapped z.rows hn.some_row ∙ hn.last in
    let own : b.flags ≡ new.wrapped =
    ap (λ c. cond c (update b.flags (z.rows - 1) true) b.flags) (sym off) ∙ b.flagged ∙ flags in
    record {
      state_after = b.state_after ∙ (λ i. at t (cells i) (own i) p.pos.row p.pos.col p.attrs);
      proper = b.proper;
    }

-- ---- all rows

-- by the same writers, row by row
pub in_turn-same : (had has : ℕ → Bool) (rows others : RowWriters) (n : ℕ)
    → ((i : ℕ) → i < n → next_row had rows i ≡ next_row has others i) → in_turn had rows n ≡ in_turn has others n
unfolding in_turn
in_turn-same had has rows others zero same = refl
in_turn-same had has rows others (suc n) same =
    let above = in_turn-same had has rows others n (λ i l. same i (omega arith)) in
    let last = same n (omega arith) in λ j. above j >> last j

-- what the writer of each row does on the terminal of its scene
abbrev DrawEach : Size → Term → Shown → Shown → RowWriters → Type 0
DrawEach z t old new rows = (i : ℕ) (flagged : Bool) (F : ℕ → Bool) (p : Pen)
    → IsScene (scene_of z t old new i flagged F) → IsReady (scene_of z t old new i flagged F) p
    → IsDrawn (scene_of z t old new i flagged F) (rows i flagged p).pen (run z (rows i flagged p).forms
    (with_row (scene_of z t old new i flagged F) (old.cell i) F p.pos.row p.pos.col p.attrs))

module _ (z : Size) (t : Term) (old new : Shown) (ho : IsShown z old) (hn : IsDrawable z new) (had : ℕ → Bool)
    (reported : (i : ℕ) (b : Bool) → (had i && b) ≡ (is_continued old.wrapped i && b)) (rows : RowWriters)
    (draw : DrawEach z t old new rows) (p : Pen) (ha : IsProper p.attrs) (closed : p.erase ≡ None) where
  between : (n : ℕ) → n ≤ z.rows
      → Between z t old new n (in_turn had rows n p).pen (run z (in_turn had rows n p).forms (showing t old p))
  unfolding in_turn next_row skip ◌>>◌
  between zero l = begun z t old new p ha closed
  between (suc n) l =
      let q = (in_turn had rows n p).pen in
      let fs = (in_turn had rows n p).forms in
      let u = run z fs (showing t old p) in
      let b = between n (omega arith) in
      let flagged = had n && not q.lost in
      let same = reported n (not q.lost) in
      let d = rows n flagged (afresh q) in
      subst (Between z t old new (suc n) d.pen) (sym (run-joined z fs d.forms (showing t old p)))
      (between-next z t old new n flagged q u b same d
      (draw n flagged b.flags (afresh q) (scene-is z t old new n flagged q u b same ho hn (omega arith))
      (ready-is z t old new n flagged q u b same)))

  pub all-done : IsDone t new (in_turn had rows z.rows p).pen
      (run z (in_turn had rows z.rows p).forms (showing t old p))
  all-done = ended z t old new _ _ ho hn.shown (between z.rows (omega arith))

-- ---- differences

difference-draws : (z : Size) (t : Term) (old new : Shown) → DrawEach z t old new (differences_of z old new)
difference-draws z t old new i flagged F p scene ready =
    difference-leads (scene_of z t old new i flagged F) p scene ready

pub differences : (z : Size) (t : Term) (old new : Shown) (p : Pen) (n : ℕ) → IsShown z old → IsDrawable z new
    → IsProper p.attrs → p.erase ≡ None → n ≤ z.rows
    → Between z t old new n (rows_difference z old new n p).pen
    (run z (rows_difference z old new n p).forms (showing t old p))
differences z t old new p n ho hn ha closed l =
    between z t old new ho hn (is_continued old.wrapped) (λ i b. refl) (differences_of z old new)
    (difference-draws z t old new) p ha closed n l

pub difference-done : (z : Size) (t : Term) (old new : Shown) (p : Pen) → IsShown z old → IsDrawable z new
    → IsProper p.attrs → p.erase ≡ None
    → IsDone t new (rows_difference z old new z.rows p).pen
    (run z (rows_difference z old new z.rows p).forms (showing t old p))
difference-done z t old new p ho hn ha closed =
    all-done z t old new ho hn (is_continued old.wrapped) (λ i b. refl) (differences_of z old new)
    (difference-draws z t old new) p ha closed

-- ---- redraws

blank-paired : IsPaired (λ k. default_cell)
blank-paired = record { first = refl; next = λ k. refl; blank = λ k e. absurd (false≢true e) }

pub blank-shown : (z : Size) → 0 < z.rows → 0 < z.cols → IsShown z blank_shown
blank-shown z hr hc = record {
  some_row = hr;
  some_col = hc;
  paired = λ r. blank-paired;
  beyond = λ r k l. refl;
  below = λ r k l. refl;
  below_flag = λ r l. refl;
  filled = λ r e. absurd (false≢true e);
  last = refl;
  in_rows = hr;
  in_cols = omega arith;
  saved_in_rows = hr;
  saved_in_cols = omega arith;
}

none-flagged : (i : ℕ) (b : Bool) → false ≡ (is_continued (λ r. false) i && b)
none-flagged zero b = refl
none-flagged (suc i) b = refl

redraw-draws : (z : Size) (t : Term) (s : Shown) → DrawEach z t blank_shown s (redraws_of z s)
redraw-draws z t s i flagged F p scene ready =
    redraw-leads (scene_of z t blank_shown s i flagged F) p scene ready (λ c. refl) refl

pub redraw-done : (z : Size) (t : Term) (s : Shown) (p : Pen) → IsDrawable z s → IsProper p.attrs → p.erase ≡ None
    → IsDone t s (rows_redraw z s z.rows p).pen (run z (rows_redraw z s z.rows p).forms (showing t blank_shown p))
redraw-done z t s p h ha closed =
    all-done z t blank_shown s (blank-shown z h.shown.some_row h.shown.some_col) h no_flags none-flagged
    (redraws_of z s) (redraw-draws z t s) p ha closed

pub rows-redraw_lead : EachRowsRedrawLeads
rows-redraw_lead z t s p h ha closed = (redraw-done z t s p h ha closed).state_after

pub rows-difference_lead : EachRowsDifferenceLeads
rows-difference_lead z t old new p ho hn ha closed = (difference-done z t old new p ho hn ha closed).state_after
