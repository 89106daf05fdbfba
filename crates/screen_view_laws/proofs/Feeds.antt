-- Forms that go to the next row.
use Rattle.std.proofs.Common.{◌≡◌, ℕ, ◌+◌, ◌-◌, ◌<◌, ◌≤◌, ◌==◌, Bool, true, false, cond, List, []}
use Rattle.std.proofs.Common.{length, min}
use Rattle.std.proofs.Common.{refl, sym, ap, subst, ◌∙◌, arith, ⊎_elim}
use Rattle.std.proofs.lemmas.Bool.{cond_both, cond-true, eq-eqb, cases_lt}
use Rattle.vt100_forms.specs.Form.{Crlf, Lf}
use Rattle.terminal_model.specs.Term.{Size, Term}
use Rattle.terminal_model.specs.Apply.{down, apply}
use Rattle.vt100_rows.specs.Row.{RowView}
use Rattle.vt100_rows.specs.Sheet.{moved_up}
use Rattle.vt100_rows.proofs.SheetLemmas.{length-rows_by_position}
use Rattle.vt100_rows.proofs.MoveLemmas.{IsSheet-moved_up}
use Rattle.vt100_core.specs.Grid.{KeptPart, GridView, is_in_region}
use Rattle.vt100_core.specs.Cursor.{moved_rows_down}
use Rattle.vt100_core.specs.Picture.{grid_size}
use Rattle.vt100_core.specs.Scroll.{Scrolled, kept_after, widened, is_kept_from, left_rows, scrolled_up, fed}
use Rattle.vt100_core.specs.Scroll.{rows_past_bottom}
use Rattle.vt100_core.proofs.InputLemmas.{fed_rows, fed-is, fed_rows-none, lines-fed, wraps-fed, down-stays, down-up}
use Rattle.forms_read.specs.Events.{events_of}
use Rattle.screen_model.specs.State.{State}
use Rattle.screen_model.specs.Step.{with_shown, line_fed}
use Rattle.screen_model.specs.Made.{played}
use Rattle.screen_view_laws.specs.Plain.{terminal_of, size_shown, IsPlainGrid, IsPlainState}
use Rattle.screen_view_laws.specs.StateLaws.{Shows}
use Rattle.screen_view_laws.proofs.PlainStates.{drawable, plain-as, shows-at, shows-then}
use Rattle.screen_view_laws.proofs.Cursors.{moved, plain-moved, shows-moved}
use Rattle.screen_view_laws.proofs.Erasures.{plain-rows}

-- ---- what scrolling leaves aside

-- h has the size, the saved cursor and the modes of g, and shows no scrollback row if g shows none
pub record IsAsideTo (g : GridView) (row col : ℕ) (counted saved : Bool) (shown : ℕ) (z : Size) : Type 0 where
  pub saved_row : row ≡ g.saved_row
  pub saved_col : col ≡ g.saved_col
  pub origin : counted ≡ g.origin
  pub saved_origin : saved ≡ g.saved_origin
  pub offset : g.kept.offset ≡ 0 → shown ≡ 0
  pub size : z ≡ grid_size g

abbrev pub IsAside : GridView → GridView → Type 0
IsAside g h = IsAsideTo g h.saved_row h.saved_col h.origin h.saved_origin h.kept.offset (grid_size h)

pub aside-same : (g : GridView) → IsAside g g
aside-same g = record {
  saved_row = refl;
  saved_col = refl;
  origin = refl;
  saved_origin = refl;
  offset = λ e. e;
  size = refl;
}

pub aside-both : (g h k : GridView) → IsAside g h → IsAside h k → IsAside g k
aside-both g h k a b = record {
  saved_row = b.saved_row ∙ a.saved_row;
  saved_col = b.saved_col ∙ a.saved_col;
  origin = b.origin ∙ a.origin;
  saved_origin = b.saved_origin ∙ a.saved_origin;
  offset = λ e. b.offset (a.offset e);
  size = b.size ∙ a.size;
}

offset-kept : (g : GridView) (left : List RowView) (b : Bool) → g.kept.offset ≡ 0
    → (cond b (widened (kept_after g.kept left) g.height g.width) g.kept).offset ≡ 0
offset-kept g left true e = cond-true (g.kept.offset == 0) 0 _ (eq-eqb g.kept.offset 0 e)
offset-kept g left false e = e

aside-scrolled : (g : GridView) (n : ℕ) → IsAside g (scrolled_up g n).grid
unfolding scrolled_up
aside-scrolled g n = record {
  saved_row = refl;
  saved_col = refl;
  origin = refl;
  saved_origin = refl;
  offset = offset-kept g (left_rows g n) (is_kept_from g);
  size = refl;
}

pub aside-fed : (g : GridView) (n : ℕ) → IsAside g (fed g n).grid
unfolding fed
aside-fed g n =
    let down = moved_rows_down g n in
    cond_both (is_in_region g) (scrolled_up down (rows_past_bottom g n)) (record { grid = down; sunk = [] })
    (λ (x : Scrolled). IsAside g x.grid)
    (λ _. aside-both g down (scrolled_up down (rows_past_bottom g n)).grid (aside-same g)
    (aside-scrolled down (rows_past_bottom g n)))
    (λ _. aside-same g)

-- ---- a line feed

plain-kept : (k : KeptPart) (h : GridView) → IsPlainGrid (record h { kept = k }) → h.kept.offset ≡ 0 → IsPlainGrid h
plain-kept k h p e =
    plain-as (record h { kept = k }) h p p.sheet p.some p.cursor_row p.cursor_col p.saved_row p.saved_col p.origin
    p.saved_origin e

shows-kept : (s : State) (k : KeptPart) (h g : GridView) (t : Term) → record h { kept = k } ≡ g → h.kept.offset ≡ 0
    → Shows s t (with_shown s g) → Shows s t (with_shown s h)
shows-kept s k h g t e o n =
    let bare : Shows s t (with_shown s (record h { kept = k })) = subst (λ (x : GridView). Shows s t (with_shown s x))
    (sym e) n in
    record { shows = bare.shows; size = bare.size; plain = (bare.plain.0, plain-kept k h bare.plain.1 o) }

pub shows-fed : (s : State) → IsPlainState s
    → Shows s (down (size_shown s) (terminal_of s)) (with_shown s (fed s.shown 1).grid)
shows-fed s h =
    let g = s.shown in
    let p = h.1 in
    let d = drawable g p in
    let z = size_shown s in
    let t = terminal_of s in
    let offset = (aside-fed g 1).offset p.offset in
    ⊎_elim
    (λ (l : g.row + 1 < g.height).
    shows-kept s g.kept (fed g 1).grid (record g { row = g.row + 1 }) (down z t)
    (fed-is g 0 (g.row + 1) d (omega (arith, d.bottom, l)) (omega (arith, d.bottom, l))
    ∙ ap (λ rows. record g { rows = rows; row = g.row + 1 }) (fed_rows-none g)) offset
    (record {
      shows = sym (down-stays z t l);
      size = refl;
      plain = (h.0, plain-moved g (g.row + 1) g.col p l p.cursor_col);
    }))
    (λ (m : g.height ≤ g.row + 1).
    let n = length-rows_by_position (length g.rows) (moved_up g.rows 0 (length g.rows) 1 g.width) in
    let lines = lines-fed g d in
    let flags = wraps-fed g d in
    shows-kept s g.kept (fed g 1).grid (record g { rows = fed_rows g 1; row = g.row }) (down z t)
    (fed-is g 1 g.row d (omega (arith, d.bottom, d.top, d.few_rows, d.row, m)) (omega (arith, d.bottom, d.row, m)))
    offset
    (record {
      shows = (λ i. record t { cell = lines i; wrapped = flags i }) ∙ sym (down-up z t m);
      size = refl;
      plain = (
        h.0,
        plain-rows g (fed_rows g 1) p
            (IsSheet-moved_up g.height g.width g.rows 0 (length g.rows) 1 p.sheet (omega (arith, d.row)) p.few_cols
            (omega arith)) n,
      );
    }))
    (cases_lt (g.row + 1) g.height)

pub shows-Lf : (s : State) → IsPlainState s
    → Shows s (apply (size_shown s) Lf (terminal_of s)) (played (events_of Lf) s)
unfolding apply
shows-Lf s h = shows-fed s h

pub shows-Crlf : (s : State) → IsPlainState s
    → Shows s (apply (size_shown s) Crlf (terminal_of s)) (played (events_of Crlf) s)
unfolding apply
shows-Crlf s h =
    let g = s.shown in
    let u = moved s g.row 0 in
    let t = down (size_shown s) (record (terminal_of s) { col = 0 }) in
    let first = shows-moved s g.row 0 h h.1.cursor_row (omega arith) in
    let v = with_shown u (fed u.shown 1).grid in
    let none : min 0 (g.width - 1) ≡ 0 = omega arith in
    shows-at s (played (events_of Crlf) s) v t t (ap (λ c. (line_fed (with_shown s (record g { col = c }))).state) none)
    refl (shows-then s u v (terminal_of u) t first (shows-fed u first.plain))
