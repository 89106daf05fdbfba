-- Printing keeps what is true of a sheet.
use Rattle.std.proofs.Common.{◌≡◌, ℕ, ◌+◌, ◌-◌, ◌<◌, ◌≤◌, ◌==◌, Bool, true, false, ◌&&◌, []}
use Rattle.std.proofs.Common.{length, length-set, refl, sym, ap, ◌∙◌, arith, subst, ⊎_elim, nat_lt, nat_le}
use Rattle.std.specs.Prelude.{Some}
use Rattle.std.specs.Char.{IsScalar}
use Rattle.std.proofs.lemmas.Bool.{cond_both, cases_Bool, ltb-true, ltb-false}
use Rattle.std.proofs.lemmas.Bool.Decides.{nat_tests}
use Rattle.vt100_forms.specs.declared.attrs.Attrs.{Attrs}
use Rattle.vt100_cells.specs.Cell.{CellView, IsCell, cell_of, columns_of, has_text, drawn_columns}
use Rattle.vt100_cells.specs.Line.{span_of}
use Rattle.vt100_cells.proofs.CellLemmas.{IsCell-of, IsCell-with_attrs}
use Rattle.vt100_cells.proofs.WidthLemmas.{drawn-is}
use Rattle.vt100_rows.specs.Row.{with_wrap, placed, wiped_row, joined_cell, is_widening, join_row}
use Rattle.vt100_rows.proofs.JoinLemmas.{widened-is, IsCell-joined}
use Rattle.vt100_rows.specs.Sheet.{row_at}
use Rattle.terminal_model.specs.Apply.{is_dropped}
use Rattle.vt100_core.specs.Grid.{GridView, IsGrid, IsAllocated, with_row, with_cursor_row, row_of_cursor}
use Rattle.vt100_core.specs.Scroll.{Scrolled, fed, left_row, wrapped_on, made_to_fit}
use Rattle.vt100_core.specs.Text.{PrintedGrid, put_at, spaced, carried, joined, printed}
use Rattle.vt100_core.proofs.ScrollLemmas.{IsGrid-wrap_row, above-last}
use Rattle.vt100_core.proofs.EraseLemmas.{cursor_row_of, IsGrid-columns_erased}
use Rattle.vt100_core.proofs.TextLemmas.{IsSized-fed, IsSized-wrapped, IsMade-made, IsGrid-put_at, span_of-cell}
use Rattle.vt100_core.proofs.TextLemmas.{span_of-wide, IsGrid-join, in-place, ignored, widens, carries}
use Rattle.vt100_core.proofs.TextLemmas.{IsDrawn-here}
use Rattle.screen_model.proofs.UnscrolledSheets.{Limits, IsShownSheet, row-drawn, drawn-col, drawn-fed}

-- ---- the cursor goes to the next row

left-within : (g : GridView) → IsGrid g → IsAllocated g → left_row g < length g.rows
left-within g i a = cond_both (g.row == g.bottom) (g.row - 1) g.row (λ n. n < length g.rows)
    (λ _. omega (arith, i.cursor_row, i.sheet.count a)) (λ _. omega (arith, i.cursor_row, i.sheet.count a))

drawn-wrapped : (l : Limits) (g : GridView) (wrap : Bool) → IsShownSheet l g → IsShownSheet l (wrapped_on g wrap).grid
unfolding wrapped_on
drawn-wrapped l g wrap d =
    let i = d.fine.grid in
    let g0 = record g { col = 0 } in
    let h = (fed g0 1).grid in
    let next : IsShownSheet l h = drawn-fed l g0 1 (drawn-col l g 0 (omega arith) d) in
    let r = left_row g in
    let wraps = wrap && ((r + 1) == h.row) in
    let v = with_wrap (row_at h.rows r) wraps in
    cond_both ((g.row == g.bottom) && (g.row == 0)) h (with_row h r v) (λ x. IsShownSheet l x) (λ _. next)
    (λ _. row-drawn l h r v next
    (IsGrid-wrap_row h r wraps next.fine.grid (omega (arith, left-within g i d.some, (IsSized-fed g0 1).count))
    (λ e. above-last h r wrap next.fine.grid e)))

drawn-made : (l : Limits) (g : GridView) (columns : ℕ) (wrap : Bool) → IsShownSheet l g
    → IsShownSheet l (made_to_fit g columns wrap).grid
drawn-made l g columns wrap d =
    cond_both (nat_le (g.col + columns) g.width) (record { grid = g; sunk = [] }) (wrapped_on g wrap)
    (λ (s : Scrolled). IsShownSheet l s.grid) (λ _. d) (λ _. drawn-wrapped l g wrap d)

-- ---- a cell at the cursor

room-right : (col n width : ℕ) → nat_lt col n ≡ true → n ≡ width → col + 1 ≤ width
room-right col n width e w = grind (arith, nat_tests)

drawn-put_at : (l : Limits) (g : GridView) (x : CellView) (a : Attrs) (n : ℕ) → IsShownSheet l g → IsCell x
    → has_text x ≡ true → n ≡ span_of x → g.col + n ≤ g.width → IsShownSheet l (put_at g x a n)
drawn-put_at l g x a n d cell text e h = record {
  fine = record { limits = d.fine.limits; grid = IsGrid-put_at g x a n d.fine.grid d.some cell text e h };
  some = omega (arith, length-set g.rows g.row (placed (row_of_cursor g) g.col x a), d.some);
}

drawn-spaced : (l : Limits) (g : GridView) (c : ℕ) (a : Attrs) → IsShownSheet l g → IsScalar c
    → is_dropped g.width g.col c ≡ false → 0 < columns_of c → IsShownSheet l (spaced g c a).grid
drawn-spaced l g c a d s kept some =
    let is = IsDrawn-here g c (columns_of c) kept refl in
    let u = drawn-is c (columns_of c) is.drawn in
    let h = (made_to_fit g (columns_of c) true).grid in
    let m = IsMade-made g (columns_of c) true is.fits in
    drawn-put_at l h (cell_of c a) a (columns_of c) (drawn-made l g (columns_of c) true d) (IsCell-of c a s u.0 some)
    refl (span_of-cell c (columns_of c) a refl some) m.fits

-- ---- a zero-width character

two-columns : (n : ℕ) → (n == 1) ≡ false → 0 < n → 2 ≤ n
two-columns n e h = grind (arith, nat_tests)

drawn-carried : (l : Limits) (g : GridView) (c : ℕ) (a : Attrs) → IsShownSheet l g → IsScalar c
    → drawn_columns c ≡ Some 0 → is_widening (row_of_cursor g) g.col c ≡ true → (g.width == 1) ≡ false
    → IsShownSheet l (carried g c a).grid
drawn-carried l g c a d s zero wide one =
    let i = d.fine.grid in
    let v = row_of_cursor g in
    let r = cursor_row_of g i d.some in
    let w = with_cursor_row g (wiped_row v (g.col - 1) g.col a) in
    let x : CellView = record (joined_cell v g.col c) { attrs = a } in
    let is = widened-is v g.col c r.row wide in
    let h = (wrapped_on w false).grid in
    let sized = IsSized-wrapped w false in
    let wiped = row-drawn l g g.row (wiped_row v (g.col - 1) g.col a) d
    (IsGrid-columns_erased g (g.col - 1) g.col a i d.some i.cursor_col) in
    drawn-put_at l h x a 2 (drawn-wrapped l w false wiped)
    (IsCell-with_attrs (joined_cell v g.col c) a (IsCell-joined v g.col c r.row s zero)) is.1 (span_of-wide x is.0)
    (omega (arith, sized.col, sized.width, two-columns g.width one i.some_cols))

drawn-joined : (l : Limits) (g : GridView) (c : ℕ) (a : Attrs) → IsShownSheet l g → IsScalar c
    → drawn_columns c ≡ Some 0 → 0 < g.col → IsShownSheet l (joined g c a).grid
drawn-joined l g c a d s zero after =
    let i = d.fine.grid in
    let v = row_of_cursor g in
    let r = cursor_row_of g i d.some in
    let h = with_cursor_row g (join_row v g.col c a) in
    let in_row : IsShownSheet l h = row-drawn l g g.row (join_row v g.col c a) d
    (IsGrid-join g c a i d.some s zero after) in
    ⊎_elim
    (λ (wide : is_widening v g.col c ≡ true).
    ⊎_elim
    (λ (one : (length v.cells == 1) ≡ true).
    subst (λ x. IsShownSheet l x) (ignored g c a h r.wide refl wide one).0 in_row)
    (λ (one : (length v.cells == 1) ≡ false).
    ⊎_elim
    (λ (room : nat_lt g.col (length v.cells) ≡ true).
    subst (λ x. IsShownSheet l x) (widens g c a h r.wide refl wide one room).0
    (drawn-col l h (g.col + 1) (room-right g.col (length v.cells) g.width room r.wide) in_row))
    (λ (room : nat_lt g.col (length v.cells) ≡ false).
    subst (λ (x : PrintedGrid). IsShownSheet l x.grid) (sym (carries g c a h r.wide refl wide one room).1)
    (drawn-carried l g c a d s zero wide (ap (λ n. n == 1) (sym r.wide) ∙ one)))
    (cases_Bool (nat_lt g.col (length v.cells))))
    (cases_Bool (length v.cells == 1)))
    (λ (wide : is_widening v g.col c ≡ false).
    subst (λ x. IsShownSheet l x) (in-place g c a h r.wide refl wide).0 in_row)
    (cases_Bool (is_widening v g.col c))

-- a character is dropped, drawn in columns of its own, or joins the cell before it
pub printed-either : (P : GridView → Type 0) (g : GridView) (c : ℕ) (a : Attrs)
    → (is_dropped g.width g.col c ≡ true → P g)
    → (is_dropped g.width g.col c ≡ false → 0 < columns_of c → P (spaced g c a).grid)
    → (is_dropped g.width g.col c ≡ false → columns_of c ≡ 0 → P (joined g c a).grid) → P (printed g c a).grid
unfolding printed
printed-either P g c a dropped spaces joins =
    cond_both (is_dropped g.width g.col c) _ _ (λ (x : PrintedGrid). P x.grid) dropped
    (λ e. cond_both (nat_lt 0 (columns_of c)) (spaced g c a) (joined g c a) (λ (x : PrintedGrid). P x.grid)
    (λ some. spaces e (ltb-true 0 (columns_of c) some))
    (λ none. let zero = ltb-false 0 (columns_of c) none in joins e (omega arith)))

pub drawn-printed : (l : Limits) (g : GridView) (c : ℕ) (a : Attrs) → IsShownSheet l g → IsScalar c
    → IsShownSheet l (printed g c a).grid
drawn-printed l g c a d s =
    printed-either (λ x. IsShownSheet l x) g c a (λ _. d) (λ e some. drawn-spaced l g c a d s e some)
    (λ e zero. let is = IsDrawn-here g c (columns_of c) e refl in
    drawn-joined l g c a d s (is.drawn ∙ ap Some zero) (is.after zero))
