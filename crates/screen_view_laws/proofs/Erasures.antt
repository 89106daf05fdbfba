-- Forms that erase.
use Rattle.std.proofs.Common.{◌≡◌, ℕ, ◌+◌, ◌-◌, ◌<◌, ◌≤◌, ◌==◌, true, false, cond, not, ◌&&◌, nat_lt, nat_eq, List}
use Rattle.std.proofs.Common.{[], ◌∷◌, length, set, min, refl, sym, ap, subst, ◌∙◌, arith, length-set, ⊎_elim}
use Rattle.std.proofs.lemmas.Bool.{cond_both, cases_lt, lt-ltb, le-ltb, eqb-true}
use Rattle.std.proofs.lemmas.Bool.Decides.{nat_tests}
use Rattle.std.proofs.lemmas.List.{length-replicate}
use Rattle.std.proofs.Math.Bool.{and-false}
use mathlib.Core.Path.{fun_ext}
use Rattle.vt100_forms.specs.declared.attrs.Attrs.{Attrs}
use Rattle.vt100_forms.specs.Form.{EraseChar, ClearRowForward, ClearScreen}
use Rattle.vt100_cells.specs.Cell.{CellView, empty_cell, default_cell}
use Rattle.vt100_cells.specs.Cells.{cell_at}
use Rattle.vt100_cells.specs.Line.{wiped, wipe_unflags}
use Rattle.vt100_cells.proofs.ListLemmas.{cell_at_past, cell_at-replicate}
use Rattle.terminal_model.specs.Apply.{with_line, erase, apply}
use Rattle.terminal_model.proofs.FormLemmas.{erase-none}
use Rattle.vt100_rows.specs.Row.{RowView, wiped_row, cleared_row}
use Rattle.vt100_rows.proofs.RowLemmas.{line-wiped}
use Rattle.vt100_rows.specs.Sheet.{row_at, rows_by_position, erased_forward_at, IsRowOf, IsSheet}
use Rattle.vt100_rows.specs.Picture.{lines_of, wraps_of}
use Rattle.vt100_rows.proofs.SheetLemmas.{row_at-by_position, length-rows_by_position, IsSheet-with_row}
use Rattle.vt100_rows.proofs.SheetLemmas.{IsSheet-by_position}
use Rattle.vt100_rows.proofs.PictureLemmas.{lines-past, wraps-past}
use Rattle.vt100_core.specs.Grid.{GridView, row_of_cursor, with_cursor_row}
use Rattle.vt100_core.specs.Erase.{columns_erased}
use Rattle.vt100_core.proofs.EraseLemmas.{IsRowOf-cleared, IsRowOf-wiped}
use Rattle.vt100_core.proofs.InputLemmas.{here, cursor_row, with_line-is}
use Rattle.forms_read.specs.Events.{kept_number, sequence, bare, events_of}
use Rattle.screen_model.specs.State.{State}
use Rattle.screen_model.specs.Step.{with_shown, cells_erased, erased_below}
use Rattle.screen_model.specs.Made.{played}
use Rattle.screen_model.specs.Shown.{extras_of}
use Rattle.screen_view_laws.specs.Plain.{terminal_of, size_shown, IsPlainGrid, IsPlainState}
use Rattle.screen_view_laws.specs.StateLaws.{Shows}
use Rattle.screen_view_laws.proofs.PlainStates.{drawable, plain-as, shows-at, shows-same}
use Rattle.screen_view_laws.proofs.Cursors.{plain-moved, placed-at, read-count, nonzero}

-- ---- another row at the cursor

pub plain-rows : (g : GridView) (rows : List RowView) → IsPlainGrid g → IsSheet g.height g.width rows
    → length rows ≡ length g.rows → IsPlainGrid (record g { rows = rows })
plain-rows g rows p sheet n =
    plain-as g (record g { rows = rows }) p sheet (omega (arith, n, p.some)) p.cursor_row p.cursor_col p.saved_row
    p.saved_col p.origin p.saved_origin p.offset

pub plain-row : (g : GridView) (v : RowView) → IsPlainGrid g → IsRowOf g.width v
    → ((row_of_cursor g).wrapped ≡ false → v.wrapped ≡ false) → IsPlainGrid (with_cursor_row g v)
plain-row g v p row keeps =
    plain-rows g (set g.rows g.row v) p
    (IsSheet-with_row g.height g.width g.rows g.row v p.sheet (here g (drawable g p)) row (λ e.
    let at : g.row ≡ g.height - 1 = omega (arith, e) in
    keeps (ap (λ k. (row_at g.rows k).wrapped) at ∙ p.sheet.last)))
    (length-set g.rows g.row v)

-- ---- columns of the cursor's row

erased-shows : (s : State) (e : ℕ) → IsPlainState s → e ≤ s.shown.width
    → Shows s (erase (size_shown s) e (terminal_of s)) (with_shown s (columns_erased s.shown s.shown.col e s.attrs))
unfolding erase
erased-shows s e h l =
    let g = s.shown in
    let p = h.1 in
    let v = row_of_cursor g in
    let f = cell_at v.cells in
    let a = s.attrs in
    let r = cursor_row g (drawable g p) in
    let w = wiped_row v g.col e a in
    record {
      shows =
          with_line-is g (extras_of s) w (not (wipe_unflags g.width f g.col e)) (here g (drawable g p))
          (ap (λ n. v.wrapped && not (wipe_unflags n f g.col e)) r.wide)
          ∙ ap (λ c. with_line (terminal_of s) c (not (wipe_unflags g.width f g.col e)))
          (line-wiped v g.col e a (omega (arith, r.wide, l)));
      size = refl;
      plain = (
        h.0,
        plain-row g w p (IsRowOf-wiped g.width v g.col e a r l)
            (λ q. ap (λ b. b && not (wipe_unflags (length v.cells) f g.col e)) q),
      );
    }

erased-as : (s : State) (m n : ℕ) → IsPlainState s
    → min (s.shown.col + m) s.shown.width ≡ min (s.shown.col + n) s.shown.width
    → Shows s (erase (size_shown s) (min (s.shown.col + n) s.shown.width) (terminal_of s)) (cells_erased m s)
erased-as s m n h e =
    subst (Shows s _) (sym (ap (λ c. with_shown s (columns_erased s.shown s.shown.col c s.attrs)) e))
    (erased-shows s (min (s.shown.col + n) s.shown.width) h (omega arith))

pub shows-EraseChar : (s : State) (n : ℕ) → IsPlainState s
    → Shows s (apply (size_shown s) (EraseChar n) (terminal_of s)) (played (events_of (EraseChar n)) s)
unfolding apply
shows-EraseChar s n h =
    let g = s.shown in
    let t = erase (size_shown s) (min (g.col + n) g.width) (terminal_of s) in
    cond_both (n == 0) [] (cond (n == 1) (bare 0x58 ∷ []) (sequence [] (n ∷ []) 0x58 ∷ []))
    (λ es. Shows s t (played es s))
    (λ z. let none = eqb-true n 0 z in
    shows-at s s s t (terminal_of s) refl
    (erase-none (size_shown s) (min (g.col + n) g.width) (terminal_of s) (omega (arith, none))) (shows-same s h))
    (λ z. let some = nonzero n z in
    cond_both (n == 1) (bare 0x58 ∷ []) (sequence [] (n ∷ []) 0x58 ∷ []) (λ es. Shows s t (played es s))
    (λ q. erased-as s 1 n h (ap (λ m. min (g.col + m) g.width) (sym (eqb-true n 1 q))))
    (λ _. erased-as s (cond (nat_eq (kept_number n) 0) 1 (kept_number n)) n h
    (ap (λ m. min (g.col + m) g.width) (read-count n 1 some) ∙ omega (arith, h.1.few_cols))))

pub shows-ClearRowForward : (s : State) → IsPlainState s
    → Shows s (apply (size_shown s) ClearRowForward (terminal_of s)) (played (events_of ClearRowForward) s)
unfolding apply
shows-ClearRowForward s h = erased-shows s s.shown.width h (omega arith)

-- ---- the screen

-- a row that is empty from its first column on
abbrev emptied : List RowView → ℕ → Attrs → ℕ → RowView
emptied rows width a r = erased_forward_at rows 0 0 width a r

empty-cleared : (width : ℕ) (v : RowView) (a : Attrs) (k : ℕ) → length v.cells ≡ width
    → cell_at (cleared_row v a).cells k ≡ cond (nat_lt k width) (empty_cell a) default_cell
empty-cleared width v a k e =
    ⊎_elim
    (λ (l : k < width). rw (lt-ltb k width l) (cell_at-replicate (length v.cells) (empty_cell a) k (omega (arith, e))))
    (λ (l : width ≤ k). rw (le-ltb k width l) (cell_at_past (cleared_row v a).cells k (omega (
      arith,
      e,
      length-replicate (length v.cells) (empty_cell a),
    ))))
    (cases_lt k width)

wiped-all : (f : ℕ → CellView) (width : ℕ) (a : Attrs) (k : ℕ) → k < width → wiped f 0 width a k ≡ empty_cell a
wiped-all f width a k h = grind (arith, nat_tests)

empty-wiped : (width : ℕ) (v : RowView) (a : Attrs) (k : ℕ) → IsRowOf width v
    → cell_at (wiped_row v 0 width a).cells k ≡ cond (nat_lt k width) (empty_cell a) default_cell
empty-wiped width v a k r =
    let wide = (IsRowOf-wiped width v 0 width a r (omega arith)).wide in
    ⊎_elim
    (λ (l : k < width). rw (lt-ltb k width l) (ap (λ f. f k) (line-wiped v 0 width a (omega (arith, r.wide)))
    ∙ wiped-all (cell_at v.cells) width a k l))
    (λ (l : width ≤ k). rw (le-ltb k width l) (cell_at_past (wiped_row v 0 width a).cells k (omega (arith, wide))))
    (cases_lt k width)

first-only : (r : ℕ) → nat_lt 0 r ≡ false → (r == 0) ≡ false → ⊥
first-only r e q = absurd (grind (arith, nat_tests))

-- such a row is cleared, or erased from its first column on
emptied-by : (P : RowView → Type 0) (rows : List RowView) (width : ℕ) (a : Attrs) (r : ℕ)
    → P (cleared_row (row_at rows r) a) → P (wiped_row (row_at rows r) 0 width a) → P (emptied rows width a r)
emptied-by P rows width a r cleared wiped =
    let v = row_at rows r in
    cond_both (nat_lt 0 r) (cleared_row v a) (cond (r == 0) (wiped_row v 0 width a) v) P (λ _. cleared)
    (λ e. cond_both (r == 0) (wiped_row v 0 width a) v P (λ _. wiped) (λ q. absurd (first-only r e q)))

empty-cell : (rows : List RowView) (width : ℕ) (a : Attrs) (r k : ℕ) → IsRowOf width (row_at rows r)
    → cell_at (emptied rows width a r).cells k ≡ cond (nat_lt k width) (empty_cell a) default_cell
empty-cell rows width a r k i =
    let v = row_at rows r in
    emptied-by (λ w. cell_at w.cells k ≡ cond (nat_lt k width) (empty_cell a) default_cell) rows width a r
    (empty-cleared width v a k i.wide) (empty-wiped width v a k i)

wiped-flag : (width : ℕ) (v : RowView) (a : Attrs) → 0 < width → IsRowOf width v
    → (wiped_row v 0 width a).wrapped ≡ false
wiped-flag width v a some i =
    let goes : wipe_unflags width (cell_at v.cells) 0 width ≡ true = grind (arith, nat_tests, some) in
    ap (λ n. v.wrapped && not (wipe_unflags n (cell_at v.cells) 0 width)) i.wide
    ∙ ap (λ b. v.wrapped && not b) goes ∙ and-false v.wrapped

empty-flag : (rows : List RowView) (width : ℕ) (a : Attrs) (r : ℕ) → 0 < width → IsRowOf width (row_at rows r)
    → (emptied rows width a r).wrapped ≡ false
empty-flag rows width a r some i =
    emptied-by (λ w. w.wrapped ≡ false) rows width a r refl (wiped-flag width (row_at rows r) a some i)

empty-row : (rows : List RowView) (width : ℕ) (a : Attrs) (r : ℕ) → IsRowOf width (row_at rows r)
    → IsRowOf width (emptied rows width a r)
empty-row rows width a r i =
    let v = row_at rows r in
    emptied-by (IsRowOf width) rows width a r (IsRowOf-cleared width v a i)
    (IsRowOf-wiped width v 0 width a i (omega arith))

abbrev emptied_rows : List RowView → ℕ → Attrs → List RowView
emptied_rows rows width a = rows_by_position (length rows) (emptied rows width a)

empty-line : (g : GridView) (a : Attrs) (r k : ℕ) → IsPlainGrid g
    → lines_of (emptied_rows g.rows g.width a) r k
    ≡ cond (nat_lt r g.height && nat_lt k g.width) (empty_cell a) default_cell
empty-line g a r k p =
    let rows = emptied_rows g.rows g.width a in
    let n = length-rows_by_position (length g.rows) (emptied g.rows g.width a) in
    let count = p.sheet.count p.some in
    ⊎_elim
    (λ (l : r < length g.rows). rw (lt-ltb r g.height (omega (arith, count, l)))
    (ap (λ (v : RowView). cell_at v.cells k) (row_at-by_position (length g.rows) (emptied g.rows g.width a) r l)
    ∙ empty-cell g.rows g.width a r k (p.sheet.each r l)))
    (λ (l : length g.rows ≤ r). rw (le-ltb r g.height (omega (arith, count, l)))
    (ap (λ f. f k) (lines-past rows r (omega (arith, n, l)))))
    (cases_lt r (length g.rows))

empty-wrap : (g : GridView) (a : Attrs) (r : ℕ) → IsPlainGrid g → wraps_of (emptied_rows g.rows g.width a) r ≡ false
empty-wrap g a r p =
    let rows = emptied_rows g.rows g.width a in
    let n = length-rows_by_position (length g.rows) (emptied g.rows g.width a) in
    ⊎_elim
    (λ (l : r < length g.rows).
    ap (λ (v : RowView). v.wrapped) (row_at-by_position (length g.rows) (emptied g.rows g.width a) r l)
    ∙ empty-flag g.rows g.width a r p.some_cols (p.sheet.each r l))
    (λ (l : length g.rows ≤ r). wraps-past rows r (omega (arith, n, l)))
    (cases_lt r (length g.rows))

empty-sheet : (g : GridView) (a : Attrs) → IsPlainGrid g → IsSheet g.height g.width (emptied_rows g.rows g.width a)
empty-sheet g a p =
    let count = p.sheet.count p.some in
    IsSheet-by_position g.height g.width (length g.rows) (emptied g.rows g.width a) (omega (arith, p.cursor_row))
    p.sheet.count (λ r l. empty-row g.rows g.width a r (p.sheet.each r l))
    (λ _. empty-flag g.rows g.width a (g.height - 1) p.some_cols
    (p.sheet.each (g.height - 1) (omega (arith, count, p.cursor_row))))

pub shows-ClearScreen : (s : State) → IsPlainState s
    → Shows s (apply (size_shown s) ClearScreen (terminal_of s)) (played (events_of ClearScreen) s)
unfolding apply
shows-ClearScreen s h =
    let g = s.shown in
    let p = h.1 in
    let rows = emptied_rows g.rows g.width s.attrs in
    let u = with_shown s (record g { rows = rows; row = 0; col = 0 }) in
    let t = apply (size_shown s) ClearScreen (terminal_of s) in
    let n = length-rows_by_position (length g.rows) (emptied g.rows g.width s.attrs) in
    let cells = fun_ext (λ r. fun_ext (λ k. empty-line g s.attrs r k p)) in
    let flags = fun_ext (λ r. empty-wrap g s.attrs r p) in
    shows-at s (played (events_of ClearScreen) s) u t t
    (ap (λ (x : State). erased_below x) (placed-at s 0 0 0 0 p.origin (omega arith) (omega arith))) refl
    (record {
      shows = λ i. record (terminal_of s) { cell = cells i; wrapped = flags i; row = 0; col = 0 };
      size = refl;
      plain = (
        h.0,
        plain-rows (record g { row = 0; col = 0 }) rows
            (plain-moved g 0 0 p (omega (arith, p.cursor_row)) (omega arith)) (empty-sheet g s.attrs p) n,
      );
    })
