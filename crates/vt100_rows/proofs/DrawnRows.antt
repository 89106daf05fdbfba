-- What the forms of a whole row do to a terminal.
use Rattle.std.proofs.Common.{◌≡◌, ℕ, ◌-◌, ◌<◌, Bool, true, false, [], length, min, Option, None, Some, refl, arith}
use Rattle.std.proofs.Common.{sym, ap, ◌∙◌, subst, cond, inl, inr}
use Rattle.std.specs.Prelude.{unwrap_or}
use Rattle.std.proofs.lemmas.Bool.{false≢true, lt-ltb}
use mathlib.Core.Path.{fun_ext}
use Rattle.vt100_forms.specs.declared.attrs.Attrs.{Attrs}
use Rattle.vt100_forms.specs.declared.position.Pos.{Pos}
use Rattle.vt100_forms.specs.Attrs.{default_attrs}
use Rattle.vt100_forms.proofs.AttrsLemmas.{default-proper}
use Rattle.vt100_cells.specs.Cell.{CellView}
use Rattle.vt100_cells.specs.Cells.{cell_at}
use Rattle.vt100_cells.proofs.ListLemmas.{Bounded-row}
use Rattle.terminal_model.specs.Position.{update}
use Rattle.terminal_model.specs.Term.{Term}
use Rattle.terminal_model.specs.Apply.{run}
use Rattle.terminal_model.proofs.Positions.{update-same, update-other, update-kept}
use Rattle.row_drawing.specs.declared.pen.Pen.{Pen}
use Rattle.row_drawing.specs.Writer.{Drawn, skip}
use Rattle.row_drawing.specs.RowWriter.{row_redraw, row_difference}
use Rattle.row_drawing.specs.Scene.{Scene, IsScene, IsLine, IsReady, IsDrawn, scene_size, with_row}
use Rattle.row_drawing.proofs.RowRedraw.{redraw-leads}
use Rattle.row_drawing.proofs.RowStart.{difference-leads}
use Rattle.vt100_rows.specs.Row.{RowView, IsRow, blank_row}
use Rattle.vt100_rows.specs.Forms.{redraw, pen_before, formatted, difference_job, difference, differing}
use Rattle.vt100_rows.specs.Laws.{row_screen, IsPlainRow, IsAtRow, IsRowDrawn, EachRowIsDrawn, EachDifferenceIsDrawn}

-- the pen at the start of a row
abbrev starting : ℕ → Pen
starting row = record { pos = record { row = row; col = 0 }; attrs = default_attrs; erase = None; lost = false }

-- a row as it is drawn
line-of : (v : RowView) → IsRow v → IsLine (length v.cells) (cell_at v.cells) v.wrapped
line-of v h = record { paired = h.paired; beyond = Bounded-row v.cells; filled = h.filled }

blank-line : (n : ℕ) → IsLine n (cell_at []) false
blank-line n = record {
  paired = record { first = refl; next = λ k. refl; blank = λ k q. absurd (false≢true q) };
  beyond = λ k l. refl;
  filled = λ q. absurd (false≢true q);
}

other-flags : (F G : ℕ → Bool) (row : ℕ) (b : Bool) (r : ℕ) → (r ≡ row → ⊥) → F ≡ update G row b → F r ≡ G r
other-flags F G row b r apart e = ap (λ (f : ℕ → Bool). f r) e ∙ update-other G row r b apart

-- ---- a row that is drawn over an earlier one

module _ (rows : ℕ) (t : Term) (v earlier : RowView) (row : ℕ) (was_above : Bool) where
  scene : Scene
  scene = record {
    rows = rows;
    row_change = difference_job v earlier 0 row false was_above;
    term = t;
    cells = t.cell;
    flags = t.wrapped;
  }

  is-scene : IsRow v → IsPlainRow v → IsLine (length v.cells) (cell_at earlier.cells) earlier.wrapped → row < rows
      → 0 < length v.cells → t.wrapped row ≡ earlier.wrapped → IsScene scene
  unfolding scene
  is-scene h plain was inside some flag = record {
    whole = refl;
    some_col = some;
    row_in = inside;
    old = was;
    new = line-of v h;
    cells = h.cells;
    plain = plain.plain;
    proper = plain.proper;
    flag = flag;
    below_first = λ q. absurd (false≢true q);
    above_filled = λ q. absurd (false≢true q);
    above_flag = λ q. absurd (false≢true q);
  }

  -- nothing waits for the row
  row-ready : IsReady scene (starting row)
  unfolding scene
  row-ready = record {
    closed = refl;
    kept = refl;
    proper = default-proper;
    waits = λ above was. absurd (false≢true above);
  }

  -- the terminal after
  row-after : (p : Pen) (u : Term) → IsDrawn scene p u → IsRowDrawn row (cell_at v.cells) p t u
  unfolding scene
  row-after p u d = record {
    drawn = λ k. ap (λ (x : Term). x.cell row k) d.state_after
        ∙ ap (λ (f : ℕ → CellView). f k) (update-same t.cell row (cell_at v.cells));
    others = λ r k apart. ap (λ (x : Term). x.cell r k) d.state_after
        ∙ ap (λ (f : ℕ → CellView). f k) (update-other t.cell row r (cell_at v.cells) apart);
    flags = λ r apart. ap (λ (x : Term). x.wrapped r) d.state_after ∙ (elim d.flagged [
      | inl set ↦ other-flags d.flags t.wrapped row v.wrapped r apart set
      | inr waits ↦ sym (update-other d.flags row r true apart)
          ∙ other-flags (update d.flags row true) t.wrapped row true r apart waits.3
    ]);
    row_is = ap (λ (x : Term). x.row) d.state_after;
    col_is = ap (λ (x : Term). x.col) d.state_after;
    attrs_are = ap (λ (x : Term). x.attrs) d.state_after;
    hidden = ap (λ (x : Term). x.hidden) d.state_after;
    modes = ap (λ (x : Term). x.modes) d.state_after;
    style = ap (λ (x : Term). x.style) d.state_after;
    saved_row = ap (λ (x : Term). x.saved_row) d.state_after;
    saved_col = ap (λ (x : Term). x.saved_col) d.state_after;
    saved_attrs = ap (λ (x : Term). x.saved_attrs) d.state_after;
  }

  -- e are the forms of a row, which d draws
  leads-there : (e d : Drawn) (pos : Option Pos) (attrs : Option Attrs)
      → IsAtRow row (cell_at earlier.cells) earlier.wrapped pos attrs t → e ≡ d
      → IsDrawn scene d.pen (run (scene_size scene) d.forms
      (with_row scene (cell_at earlier.cells) t.wrapped row 0 default_attrs))
      → IsRowDrawn row (cell_at v.cells) e.pen t (run (row_screen rows v) e.forms t)
  unfolding scene
  leads-there e d pos attrs at is leads =
      let line = update-kept t.cell row (cell_at earlier.cells) (fun_ext (λ k. sym (at.cells k))) in
      let before : with_row scene (cell_at earlier.cells) t.wrapped row 0 default_attrs ≡ t = λ i. record t {
        cell = line i;
        row = sym at.row_is i;
        col = sym at.col_is i;
        attrs = sym at.attrs_are i;
      } in
      rw is (row-after d.pen (run (scene_size scene) d.forms t)
      (subst (λ (x : Term). IsDrawn scene d.pen (run (scene_size scene) d.forms x)) before leads))

-- ---- the redraw

pen-reported : (v : RowView) (row : ℕ) (pos : Option Pos) (attrs : Option Attrs)
    → unwrap_or pos (record { row = row; col = 0 }) ≡ record { row = row; col = 0 }
    → unwrap_or attrs default_attrs ≡ default_attrs → pen_before v 0 row false pos attrs ≡ starting row
pen-reported v row pos attrs p a = λ i. record { pos = p i; attrs = a i; erase = None; lost = false }

pub row-drawn : EachRowIsDrawn
unfolding scene
row-drawn rows t v row width pos attrs h plain inside some wide at =
    let none = blank_row 0 in
    let s = scene rows t v none row false in
    leads-there rows t v none row false (formatted v 0 width row false pos attrs)
    (row_redraw s.row_change s.row_change.cols (starting row)) pos attrs at
    (ap (redraw v 0 width row false) (pen-reported v row pos attrs at.reported_pos at.reported_attrs)
    ∙ ap (λ b. cond b (row_redraw s.row_change (min width (length v.cells - 0))) skip (starting row))
    (lt-ltb 0 (length v.cells) some) ∙ ap (λ n. row_redraw s.row_change n (starting row)) (omega (arith, wide)))
    (redraw-leads s (starting row) (is-scene rows t v none row false h plain (blank-line (length v.cells)) inside some
    at.wrapped) (row-ready rows t v none row false) (λ k. refl) refl)

-- ---- the difference

pub difference-drawn : EachDifferenceIsDrawn
unfolding scene
difference-drawn rows t v earlier row width was_above pos attrs h plain was same inside some wide at =
    let s = scene rows t v earlier row was_above in
    let cols = min (length v.cells) (length earlier.cells) in
    let reported : record { pos = pos; attrs = attrs; erase = None; lost = false } ≡ starting row = λ i. record {
      pos = at.reported_pos i;
      attrs = at.reported_attrs i;
      erase = None;
      lost = false;
    } in
    let old = subst (λ n. IsLine n (cell_at earlier.cells) earlier.wrapped) same (line-of earlier was) in
    leads-there rows t v earlier row was_above (differing v earlier 0 width row false was_above pos attrs)
    (row_difference s.row_change s.row_change.cols (starting row)) (Some pos) (Some attrs) at
    (ap (difference v earlier 0 width row false was_above) reported
    ∙ ap (λ b. cond b (row_difference s.row_change (min width (cols - 0))) skip (starting row))
    (lt-ltb 0 cols (omega (arith, same, some)))
    ∙ ap (λ n. row_difference s.row_change n (starting row)) (omega (arith, same, wide)))
    (difference-leads s (starting row) (is-scene rows t v earlier row was_above h plain old inside some at.wrapped)
    (row-ready rows t v earlier row was_above))
