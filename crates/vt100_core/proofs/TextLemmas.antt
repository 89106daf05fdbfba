-- Printing one character.
use Rattle.std.proofs.Common.{◌≡◌, ℕ, ◌+◌, ◌-◌, ◌<◌, ◌≤◌, ◌==◌, Bool, true, false, cond, not, ◌&&◌, ◌||◌, List, []}
use Rattle.std.proofs.Common.{length, min, refl, sym, ap, subst, ◌∙◌, arith, nat_lt, nat_le, length-set}
use Rattle.std.specs.Prelude.{Some, None, unwrap_or}
use Rattle.unicode_width.specs.Width.{char_width}
use Rattle.std.specs.Char.{IsScalar}
use Rattle.std.proofs.lemmas.Bool.{cond_both, cond-true, cond-false, lt-ltb, le-ltb, ltb-false, leb-true}
use Rattle.std.proofs.lemmas.Bool.Decides.{nat_tests}
use Rattle.std.proofs.lemmas.List.{set-get_or}
use Rattle.vt100_forms.specs.declared.attrs.Attrs.{Attrs}
use Rattle.vt100_rows.specs.declared.join.Join.{Join}
use Rattle.vt100_rows.specs.declared.join.Join.TheVariants.{InPlace, Ignored, Widened, Carried}
use Rattle.vt100_cells.specs.Cell.{CellView, IsCell, cell_of, columns_of, is_undrawable, drawn_columns, has_text}
use Rattle.vt100_cells.specs.Line.{span_of, put, put_unflags, wipe_unflags}
use Rattle.vt100_cells.specs.Cells.{cell_at}
use Rattle.vt100_rows.specs.Row.{RowView, blank_row, placed, wiped_row, with_wrap, joined_row, joined_cell, is_widening}
use Rattle.vt100_rows.specs.Row.{join_row, join_answer}
use Rattle.vt100_rows.proofs.RowLemmas.{IsRow-placed}
use Rattle.vt100_rows.proofs.JoinLemmas.{IsRow-join, length-join}
use Rattle.vt100_cells.proofs.ListLemmas.{length-by_position}
use Rattle.vt100_core.specs.declared.printed.Printed.TheVariants.{Nothing, Joined}
use Rattle.vt100_rows.specs.Sheet.{row_at, moved_up, IsRowOf}
use Rattle.vt100_core.specs.Grid.{GridView, IsGrid, IsAllocated, with_row, with_cursor_row, row_of_cursor, is_in_region}
use Rattle.vt100_core.specs.Cursor.{moved_rows_down}
use Rattle.vt100_core.specs.Scroll.{Scrolled, scrolled_up, up_count, rows_past_bottom, fed, left_row, wrapped_on}
use Rattle.vt100_core.specs.Scroll.{made_to_fit}
use Rattle.vt100_core.specs.Text.{PrintedGrid, put_at, spaced, carried, carried_on, joined, printed}
use Rattle.terminal_model.specs.Apply.{is_dropped}
use Rattle.vt100_rows.proofs.SheetLemmas.{length-rows_by_position}
use Rattle.vt100_core.proofs.GridLemmas.{IsGrid-parts}
use Rattle.vt100_core.proofs.EraseLemmas.{IsGrid-cursor_row, cursor_row_of}
use Rattle.vt100_core.proofs.ScrollLemmas.{too-wide}

-- ---- what stays the same where the cursor goes to the next row

pub record IsSized (g h : GridView) : Type 0 where
  pub count : length h.rows ≡ length g.rows
  pub width : h.width ≡ g.width
  pub col : h.col ≡ g.col

pub IsSized-fed : (g : GridView) (n : ℕ) → IsSized g (fed g n).grid
unfolding fed scrolled_up
IsSized-fed g n =
    let down = moved_rows_down g n in
    cond_both (is_in_region g) (scrolled_up down (rows_past_bottom g n)) (record { grid = down; sunk = [] })
    (λ (s : Scrolled). IsSized g s.grid)
    (λ _. record {
      count = length-rows_by_position (length g.rows)
          (moved_up down.rows down.top (down.bottom + 1) (up_count down (rows_past_bottom g n)) down.width);
      width = refl;
      col = refl;
    })
    (λ _. record { count = refl; width = refl; col = refl })

IsSized-row : (g h : GridView) (r : ℕ) (v : RowView) → IsSized g h → IsSized g (with_row h r v)
IsSized-row g h r v s = record { count = length-set h.rows r v ∙ s.count; width = s.width; col = s.col }

pub IsSized-wrapped : (g : GridView) (wrap : Bool) → IsSized (record g { col = 0 }) (wrapped_on g wrap).grid
unfolding wrapped_on
IsSized-wrapped g wrap =
    let g0 = record g { col = 0 } in
    let h = (fed g0 1).grid in
    let s = IsSized-fed g0 1 in
    let w = with_row h (left_row g) (with_wrap (row_at h.rows (left_row g)) (wrap && ((left_row g + 1) == h.row))) in
    cond_both ((g.row == g.bottom) && (g.row == 0)) h w (λ (x : GridView). IsSized g0 x) (λ _. s)
    (λ _. IsSized-row g0 h (left_row g) (with_wrap (row_at h.rows (left_row g)) (wrap && ((left_row g + 1) == h.row)))
    s)

pub record IsMade (g h : GridView) (columns : ℕ) : Type 0 where
  pub count : length h.rows ≡ length g.rows
  pub width : h.width ≡ g.width
  pub fits : h.col + columns ≤ h.width

pub IsMade-made : (g : GridView) (columns : ℕ) (wrap : Bool) → columns ≤ g.width
    → IsMade g (made_to_fit g columns wrap).grid columns
IsMade-made g columns wrap h =
    let s = IsSized-wrapped g wrap in
    cond_both (nat_le (g.col + columns) g.width) (record { grid = g; sunk = [] }) (wrapped_on g wrap)
    (λ (x : Scrolled). IsMade g x.grid columns)
    (λ e. record { count = refl; width = refl; fits = leb-true (g.col + columns) g.width e })
    (λ _. record { count = s.count; width = s.width; fits = omega (arith, s.col, s.width) })

-- ---- a cell at the cursor

pub IsGrid-col : (g : GridView) (col : ℕ) → IsGrid g → IsAllocated g → col ≤ g.width → IsGrid (record g { col = col })
IsGrid-col g col i a h = IsGrid-parts g g.rows col g.kept i i.sheet h i.kept i.shown (λ z. absurd (omega arith))

-- the row at the cursor, and the cursor n columns on
pub IsGrid-put_row : (g : GridView) (v : RowView) (n : ℕ) → IsGrid g → IsAllocated g → IsRowOf g.width v
    → ((row_of_cursor g).wrapped ≡ false → v.wrapped ≡ false) → g.col + n ≤ g.width
    → IsGrid (record (with_cursor_row g v) { col = g.col + n })
IsGrid-put_row g v n i l row keeps h = IsGrid-col (with_cursor_row g v) (g.col + n)
    (IsGrid-cursor_row g v i l row keeps) (omega (arith, length-set g.rows g.row v)) h

pub IsRowOf-placed : (width : ℕ) (v : RowView) (i : ℕ) (x : CellView) (a : Attrs) → IsRowOf width v → IsCell x
    → has_text x ≡ true → i + span_of x ≤ width → IsRowOf width (placed v i x a)
IsRowOf-placed width v i x a r cell text h = record {
  row = IsRow-placed v i x a r.row cell text (omega (arith, r.wide));
  wide = length-by_position (length v.cells) (put (cell_at v.cells) i x a) ∙ r.wide;
}

pub unwrapped-placed : (v : RowView) (i : ℕ) (x : CellView) (a : Attrs) → v.wrapped ≡ false
    → (placed v i x a).wrapped ≡ false
unwrapped-placed v i x a w = ap (λ b. b && not (put_unflags (length v.cells) (cell_at v.cells) i x)) w

pub IsGrid-put_at : (g : GridView) (x : CellView) (a : Attrs) (n : ℕ) → IsGrid g → IsAllocated g → IsCell x
    → has_text x ≡ true → n ≡ span_of x → g.col + n ≤ g.width → IsGrid (put_at g x a n)
IsGrid-put_at g x a n i l cell text e h =
    let v = row_of_cursor g in
    IsGrid-put_row g (placed v g.col x a) n i l
    (IsRowOf-placed g.width v g.col x a (cursor_row_of g i l) cell text (omega (arith, e)))
    (unwrapped-placed v g.col x a) h

span-same : (k n : ℕ) → min 2 k ≡ n → 0 < n → n ≡ cond (n == 2) 2 1
span-same k n e h = grind (arith, nat_tests)

pub span_of-cell : (c n : ℕ) (a : Attrs) → columns_of c ≡ n → 0 < n → n ≡ span_of (cell_of c a)
span_of-cell c n a e h = span-same (unwrap_or (char_width false c) 1) n e h ∙ ap (λ m. cond (m == 2) 2 1) (sym e)

pub span_of-wide : (x : CellView) → x.wide ≡ true → 2 ≡ span_of x
span_of-wide x e = sym (ap (λ b. cond b 2 1) e)

-- ---- a zero-width character in a row

-- the row, by what the three tests say
abbrev row_by : RowView → ℕ → ℕ → Attrs → Bool → Bool → Bool → RowView
row_by v col c a wide one room =
    cond (not wide) (joined_row v col c) (cond one v
    (cond room (placed v (col - 1) (joined_cell v col c) a) (wiped_row v (col - 1) col a)))

unwrapped-by : (v : RowView) (col c : ℕ) (a : Attrs) (wide one room : Bool) → v.wrapped ≡ false
    → (row_by v col c a wide one room).wrapped ≡ false
unwrapped-by v col c a false one room e = e
unwrapped-by v col c a true true room e = e
unwrapped-by v col c a true false true e = unwrapped-placed v (col - 1) (joined_cell v col c) a e
unwrapped-by v col c a true false false e =
    ap (λ b. b && not (wipe_unflags (length v.cells) (cell_at v.cells) (col - 1) col)) e

pub IsGrid-join : (g : GridView) (c : ℕ) (a : Attrs) → IsGrid g → IsAllocated g → IsScalar c → drawn_columns c ≡ Some 0
    → 0 < g.col → IsGrid (with_cursor_row g (join_row (row_of_cursor g) g.col c a))
IsGrid-join g c a i l s z h =
    let v = row_of_cursor g in
    let r = cursor_row_of g i l in
    IsGrid-cursor_row g (join_row v g.col c a) i l
    (record {
      row = IsRow-join v g.col c a r.row s z h (omega (arith, r.wide, i.cursor_col));
      wide = length-join v g.col c a ∙ r.wide;
    })
    (unwrapped-by v g.col c a (is_widening v g.col c) (length v.cells == 1) (nat_lt g.col (length v.cells)))

-- what each result says

abbrev answer_by : Bool → Bool → Bool → CellView → Join
answer_by wide one room x = cond (not wide) InPlace (cond one Ignored (cond room Widened (Carried x)))

-- what the three tests say where this is the result
abbrev TestsOf : Join → Bool → Bool → Bool → CellView → Type 0
TestsOf InPlace wide one room x = wide ≡ false
TestsOf Ignored wide one room x = (wide ≡ true) × (one ≡ true)
TestsOf Widened wide one room x = (wide ≡ true) × (one ≡ false) × (room ≡ true)
TestsOf (Carried y) wide one room x = (wide ≡ true) × (one ≡ false) × (room ≡ false) × (y ≡ x)

tests-at : (wide one room : Bool) (x : CellView) → TestsOf (answer_by wide one room x) wide one room x
tests-at false one room x = refl
tests-at true true room x = (refl, refl)
tests-at true false true x = (refl, refl, refl)
tests-at true false false x = (refl, refl, refl, refl)

pub tests-of : (v : RowView) (col c : ℕ) (a : Attrs) (j : Join) → j ≡ join_answer v col c a
    → TestsOf j (is_widening v col c) (length v.cells == 1) (nat_lt col (length v.cells))
    (record (joined_cell v col c) { attrs = a })
tests-of v col c a j e =
    let wide = is_widening v col c in
    let one = length v.cells == 1 in
    let room = nat_lt col (length v.cells) in
    let x : CellView = record (joined_cell v col c) { attrs = a } in
    subst (λ (k : Join). TestsOf k wide one room x) (sym e) (tests-at wide one room x)

-- the grid after each

module _ (g : GridView) (c : ℕ) (a : Attrs) (h : GridView) (width-is : length (row_of_cursor g).cells ≡ g.width)
    (after : h ≡ with_cursor_row g (join_row (row_of_cursor g) g.col c a)) where
  -- what the tests on the row's length say of the screen's width
  one-column : (b : Bool) → (length (row_of_cursor g).cells == 1) ≡ b → (g.width == 1) ≡ b
  one-column b e = ap (λ n. n == 1) (sym width-is) ∙ e

  has-room : (b : Bool) → nat_lt g.col (length (row_of_cursor g).cells) ≡ b → nat_lt g.col g.width ≡ b
  has-room b e = ap (λ n. nat_lt g.col n) (sym width-is) ∙ e

  pub in-place : is_widening (row_of_cursor g) g.col c ≡ false → (h ≡ (joined g c a).grid) × ((joined g c a).sunk ≡ [])
      × ((joined g c a).printed ≡ Joined)
  in-place e = rw e ((rw e at after), refl, refl)

  pub ignored : is_widening (row_of_cursor g) g.col c ≡ true → (length (row_of_cursor g).cells == 1) ≡ true
      → (h ≡ (joined g c a).grid) × ((joined g c a).sunk ≡ []) × ((joined g c a).printed ≡ Nothing)
  ignored e one = rw (e, one-column true one) (
    (rw (e, one) at after) ∙ ap (λ (xs : List RowView). record g { rows = xs }) (set-get_or g.rows g.row (blank_row 0)),
    refl,
    refl,
  )

  pub widens : is_widening (row_of_cursor g) g.col c ≡ true → (length (row_of_cursor g).cells == 1) ≡ false
      → nat_lt g.col (length (row_of_cursor g).cells) ≡ true
      → (record h { col = g.col + 1 } ≡ (joined g c a).grid) × ((joined g c a).sunk ≡ [])
      × ((joined g c a).printed ≡ Joined)
  widens e one room = rw (e, one-column false one, has-room true room) (
    ap (λ (x : GridView). record x { col = g.col + 1 }) (rw (e, one, room) at after),
    refl,
    refl,
  )

  pub carries : is_widening (row_of_cursor g) g.col c ≡ true → (length (row_of_cursor g).cells == 1) ≡ false
      → nat_lt g.col (length (row_of_cursor g).cells) ≡ false
      → (h ≡ with_cursor_row g (wiped_row (row_of_cursor g) (g.col - 1) g.col a)) × (joined g c a ≡ carried g c a)
  carries e one room =
      ((rw (e, one, room) at after), (rw (e, one-column false one, has-room false room)))

-- the cell goes on to the next row
pub carried-is : (g h : GridView) (c : ℕ) (a : Attrs) (x : CellView) → g.width < g.col + 2
    → h ≡ with_cursor_row g (wiped_row (row_of_cursor g) (g.col - 1) g.col a)
    → x ≡ record (joined_cell (row_of_cursor g) g.col c) { attrs = a } → carried_on h x a ≡ carried g c a
carried-is g h c a x wide eh ex =
    let w = with_cursor_row g (wiped_row (row_of_cursor g) (g.col - 1) g.col a) in
    (λ j. carried_on (eh j) (ex j) a)
    ∙ ap (λ (s : Scrolled). let p : PrintedGrid = record {
      grid = put_at s.grid (record (joined_cell (row_of_cursor g) g.col c) { attrs = a }) a 2;
      sunk = s.sunk;
      printed = Joined;
    } in p) (cond-false (nat_le (w.col + 2) w.width) _ (wrapped_on w false) (too-wide w 2 wide))

-- ---- which are dropped

shown-is : (b : Bool) (k n : ℕ) → Some n ≡ cond b None (Some k) → (b ≡ false) × (k ≡ n)
shown-is true k n e = cc
shown-is false k n e = (refl, cc)

pub hidden-is : (b : Bool) (k : ℕ) → None ≡ cond b None (Some k) → b ≡ true
hidden-is true k e = refl
hidden-is false k e = cc

pub or-false : (p q : Bool) → (p || q) ≡ false → (p ≡ false) × (q ≡ false)
or-false true q e = cc
or-false false q e = (refl, e)

after-first : (n col : ℕ) → ((n == 0) && (col == 0)) ≡ false → n ≡ 0 → 0 < col
after-first n col e z = grind (arith, nat_tests)

-- a character of n columns that is drawn
pub record IsDrawn (g : GridView) (c n : ℕ) : Type 0 where
  pub kept : is_dropped g.width g.col c ≡ false
  pub columns : columns_of c ≡ n
  pub drawn : drawn_columns c ≡ Some n
  pub fits : n ≤ g.width
  pub after : n ≡ 0 → 0 < g.col

pub IsDrawn-here : (g : GridView) (c n : ℕ) → is_dropped g.width g.col c ≡ false → columns_of c ≡ n → IsDrawn g c n
IsDrawn-here g c n e k =
    let u = or-false (is_undrawable c) (nat_lt g.width (columns_of c) || ((columns_of c == 0) && (g.col == 0))) e in
    let r = or-false (nat_lt g.width (columns_of c)) ((columns_of c == 0) && (g.col == 0)) u.1 in
    record {
      kept = e;
      columns = k;
      drawn = ap (λ b. cond b None (Some (columns_of c))) u.0 ∙ ap Some k;
      fits = omega (arith, ltb-false g.width (columns_of c) r.0, k);
      after = λ z. after-first (columns_of c) g.col r.1 (k ∙ z);
    }

pub IsDrawn-shown : (g : GridView) (c n : ℕ) → Some n ≡ cond (is_dropped g.width g.col c) None (Some (columns_of c))
    → IsDrawn g c n
IsDrawn-shown g c n shown =
    let is = shown-is (is_dropped g.width g.col c) (columns_of c) n shown in
    IsDrawn-here g c n is.0 is.1

pub printed-dropped : (g : GridView) (c : ℕ) (a : Attrs) → is_dropped g.width g.col c ≡ true
    → printed g c a ≡ record { grid = g; sunk = []; printed = Nothing }
unfolding printed
printed-dropped g c a e = cond-true (is_dropped g.width g.col c) _ _ e

pub printed-joined : (g : GridView) (c : ℕ) (a : Attrs) → is_dropped g.width g.col c ≡ false → columns_of c ≡ 0
    → printed g c a ≡ joined g c a
unfolding printed
printed-joined g c a e k = cond-false (is_dropped g.width g.col c) _ _ e
    ∙ cond-false (nat_lt 0 (columns_of c)) _ _ (le-ltb 0 (columns_of c) (omega (arith, k)))

pub printed-spaced : (g : GridView) (c : ℕ) (a : Attrs) → is_dropped g.width g.col c ≡ false → 0 < columns_of c
    → printed g c a ≡ spaced g c a
unfolding printed
printed-spaced g c a e h = cond-false (is_dropped g.width g.col c) _ _ e
    ∙ cond-true (nat_lt 0 (columns_of c)) _ _ (lt-ltb 0 (columns_of c) h)

pub two-columns : (n : ℕ) → (n == 1) ≡ false → 0 < n → 2 ≤ n
two-columns n e h = grind (arith, nat_tests)
