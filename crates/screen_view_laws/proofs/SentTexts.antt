-- Texts that may hold U+FE0F: the grid stays plain, and no mode changes.
use Rattle.std.proofs.Common.{◌≡◌, ℕ, ◌+◌, ◌-◌, ◌<◌, ◌≤◌, ◌==◌, Bool, true, false, not, ◌&&◌, nat_lt, nat_le}
use Rattle.std.proofs.Common.{List, [], ◌∷◌, length, set, map, Some, refl, ap, ◌∙◌, arith, length-set}
use Rattle.std.specs.Char.{IsScalar}
use Rattle.std.specs.List.{AllByRecursion}
use Rattle.std.proofs.lemmas.Bool.{cond_both, ltb-true, not-true, not-false}
use Rattle.std.proofs.lemmas.Bool.Decides.{nat_tests}
use Rattle.vte_core.specs.Event.{Print}
use Rattle.vt100_forms.specs.declared.attrs.Attrs.{Attrs}
use Rattle.vt100_cells.specs.Cell.{CellView, IsCell, cell_of, columns_of, drawn_columns, has_text}
use Rattle.vt100_cells.specs.Cells.{cell_at}
use Rattle.vt100_cells.specs.Line.{span_of, put, put_unflags, wipe_unflags}
use Rattle.vt100_cells.proofs.CellLemmas.{IsCell-of, IsCell-with_attrs}
use Rattle.vt100_cells.proofs.ListLemmas.{length-by_position}
use Rattle.vt100_rows.specs.Row.{with_wrap, placed, wiped_row, joined_cell, joined_row, is_widening}
use Rattle.vt100_rows.proofs.RowLemmas.{IsRow-placed, IsRow-with_wrap}
use Rattle.vt100_rows.proofs.JoinLemmas.{IsRow-joined, IsCell-joined, widened-is}
use Rattle.terminal_model.specs.Term.{Size}
use Rattle.vt100_rows.specs.Sheet.{row_at}
use Rattle.vt100_rows.proofs.SheetLemmas.{IsSheet-with_row}
use Rattle.vt100_core.specs.Grid.{GridView, row_of_cursor, with_cursor_row, with_row}
use Rattle.vt100_core.specs.Picture.{grid_size, Extras}
use Rattle.vt100_core.specs.Scroll.{Scrolled, fed, left_row, wrapped_on, made_to_fit}
use Rattle.vt100_core.specs.Text.{PrintedGrid, put_at, carried, joined, printed}
use Rattle.vt100_core.specs.declared.printed.Printed.TheVariants.{Nothing, Joined}
use Rattle.vt100_core.proofs.EraseLemmas.{IsRowOf-wiped}
use Rattle.vt100_core.proofs.TextLemmas.{IsDrawn-here, IsMade-made}
use Rattle.vt100_core.proofs.TextLemmas.{span_of-cell, span_of-wide, or-false, IsSized-wrapped}
use Rattle.vt100_core.proofs.InputLemmas.{IsNext-made, cursor_row}
use Rattle.screen_model.specs.State.{State, fresh_state}
use Rattle.screen_model.specs.Effect.{Effect, is_unhandled, calling, steps, effect}
use Rattle.screen_model.specs.Step.{typed}
use Rattle.screen_model.specs.Call.{unhandled_char}
use Rattle.screen_model.specs.Made.{played}
use Rattle.screen_model.specs.Shown.{extras_of}
use Rattle.screen_model.proofs.UnscrolledTexts.{printed-either}
use Rattle.screen_view_laws.specs.Plain.{size_shown, IsPlainGrid, IsPlainState}
use Rattle.screen_view_laws.proofs.PlainStates.{drawable}
use Rattle.screen_view_laws.proofs.Cursors.{plain-moved}
use Rattle.screen_view_laws.proofs.Erasures.{plain-rows, plain-row}
use Rattle.screen_view_laws.proofs.Feeds.{IsAside, aside-same, aside-both, aside-fed, shows-fed}

-- ---- what wrapping leaves aside

aside-wrapped : (g : GridView) (wrap : Bool) → IsAside g (wrapped_on g wrap).grid
unfolding wrapped_on
aside-wrapped g wrap =
    let g0 = record g { col = 0 } in
    let h = (fed g0 1).grid in
    let a = aside-both g g0 h (aside-same g) (aside-fed g0 1) in
    cond_both ((g.row == g.bottom) && (g.row == 0)) h _ (λ x. IsAside g x) (λ _. a) (λ _. a)

aside-made : (g : GridView) (n : ℕ) → IsAside g (made_to_fit g n true).grid
aside-made g n =
    cond_both (nat_le (g.col + n) g.width) (record { grid = g; sunk = [] }) (wrapped_on g true)
    (λ (x : Scrolled). IsAside g x.grid) (λ _. aside-same g) (λ _. aside-wrapped g true)

plain-made : (g : GridView) (x : Extras) (n : ℕ) → IsPlainGrid g → IsPlainGrid (made_to_fit g n true).grid
plain-made g x n p =
    let next = IsNext-made g x n (drawable g p) in
    let d = next.drawable in
    let a = aside-made g n in
    let height = ap (λ z. z.rows) next.size in
    let width = ap (λ z. z.cols) next.size in
    record {
      sheet = d.sheet;
      some = d.some;
      few_rows = d.few_rows;
      few_cols = d.few_cols;
      some_cols = omega (arith, width, p.some_cols);
      cursor_row = d.row;
      cursor_col = d.col;
      saved_row = omega (arith, a.saved_row, height, p.saved_row);
      saved_col = omega (arith, a.saved_col, width, p.saved_col);
      top = d.top;
      bottom = d.bottom;
      origin = a.origin ∙ p.origin;
      saved_origin = a.saved_origin ∙ p.saved_origin;
      offset = a.offset p.offset;
    }

plain-put : (g : GridView) (x : CellView) (a : Attrs) (n : ℕ) → IsPlainGrid g → IsCell x → has_text x ≡ true
    → n ≡ span_of x → g.col + n ≤ g.width → IsPlainGrid (put_at g x a n)
plain-put g x a n p cell text e l =
    let v = row_of_cursor g in
    let r = cursor_row g (drawable g p) in
    let w = placed v g.col x a in
    plain-moved (with_cursor_row g w) g.row (g.col + n)
    (plain-row g w p
    (record {
      row = IsRow-placed v g.col x a r.row cell text (omega (arith, r.wide, e, l));
      wide = length-by_position (length v.cells) (put (cell_at v.cells) g.col x a) ∙ r.wide;
    })
    (λ q. ap (λ b. b && not (put_unflags (length v.cells) (cell_at v.cells) g.col x)) q))
    p.cursor_row l

-- ---- wrapping without a flag

-- in any state with this grid
plain-fed : (g : GridView) → IsPlainGrid g → IsPlainGrid (fed g 1).grid
plain-fed g p = (shows-fed (record (fresh_state 1 1 0) { shown = g }) (refl, p)).plain.1

plain-unflagged : (g : GridView) (r : ℕ) (b : Bool) → IsPlainGrid g → r < g.height
    → IsPlainGrid (with_row g r (with_wrap (row_at g.rows r) (false && b)))
plain-unflagged g r b p l =
    let v = with_wrap (row_at g.rows r) (false && b) in
    let count = p.sheet.count p.some in
    let within : r < length g.rows = omega (arith, count, l) in
    let row = p.sheet.each r within in
    plain-rows g (set g.rows r v) p
    (IsSheet-with_row g.height g.width g.rows r v p.sheet within
    (record { row = IsRow-with_wrap (row_at g.rows r) (false && b) row.row; wide = row.wide }) (λ _. refl))
    (length-set g.rows r v)

left-within : (g : GridView) → g.row < g.height → left_row g < g.height
left-within g h = cond_both (g.row == g.bottom) (g.row - 1) g.row (λ r. r < g.height) (λ _. omega (arith, h)) (λ _. h)

plain-wrapped : (g : GridView) → IsPlainGrid g → IsPlainGrid (wrapped_on g false).grid
unfolding wrapped_on
plain-wrapped g p =
    let g0 = record g { col = 0 } in
    let h = (fed g0 1).grid in
    let q = plain-fed g0 (plain-moved g g.row 0 p p.cursor_row (omega arith)) in
    let tall = ap (λ (z : Size). z.rows) (aside-fed g0 1).size in
    cond_both ((g.row == g.bottom) && (g.row == 0)) h _ IsPlainGrid (λ _. q)
    (λ _. plain-unflagged h (left_row g) ((left_row g + 1) == h.row) q
    (omega (arith, tall, left-within g p.cursor_row)))

-- ---- a zero-width character

not-one : (n : ℕ) → (n == 1) ≡ false → 0 < n → 2 ≤ n
not-one n e h = grind (arith, nat_tests)

plain-carried : (g : GridView) (c : ℕ) (a : Attrs) → IsPlainGrid g → IsScalar c → drawn_columns c ≡ Some 0 → 2 ≤ g.width
    → is_widening (row_of_cursor g) g.col c ≡ true → IsPlainGrid (carried g c a).grid
plain-carried g c a p s z l e =
    let v = row_of_cursor g in
    let r = cursor_row g (drawable g p) in
    let w = wiped_row v (g.col - 1) g.col a in
    let h = with_cursor_row g w in
    let x = record (joined_cell v g.col c) { attrs = a } in
    let wide = widened-is v g.col c r.row e in
    let ph = plain-row g w p (IsRowOf-wiped g.width v (g.col - 1) g.col a r p.cursor_col)
    (λ q. ap (λ b. b && not (wipe_unflags (length v.cells) (cell_at v.cells) (g.col - 1) g.col)) q) in
    let sized = IsSized-wrapped h false in
    plain-put (wrapped_on h false).grid x a 2 (plain-wrapped h ph)
    (IsCell-with_attrs (joined_cell v g.col c) a (IsCell-joined v g.col c r.row s z)) wide.1 (span_of-wide x wide.0)
    (omega (arith, sized.col, sized.width, l))

plain-widened : (g : GridView) (c : ℕ) (a : Attrs) → IsPlainGrid g → IsScalar c → drawn_columns c ≡ Some 0 → 0 < g.col
    → g.col < g.width → is_widening (row_of_cursor g) g.col c ≡ true
    → IsPlainGrid (record (with_cursor_row g (placed (row_of_cursor g) (g.col - 1)
    (joined_cell (row_of_cursor g) g.col c)
    a)) { col = g.col + 1 })
plain-widened g c a p s z some l e =
    let v = row_of_cursor g in
    let r = cursor_row g (drawable g p) in
    let x = joined_cell v g.col c in
    let w = placed v (g.col - 1) x a in
    let wide = widened-is v g.col c r.row e in
    let two = span_of-wide x wide.0 in
    plain-moved (with_cursor_row g w) g.row (g.col + 1)
    (plain-row g w p
    (record {
      row = IsRow-placed v (g.col - 1) x a r.row (IsCell-joined v g.col c r.row s z) wide.1
          (omega (arith, two, r.wide, some, l));
      wide = length-by_position (length v.cells) (put (cell_at v.cells) (g.col - 1) x a) ∙ r.wide;
    })
    (λ q. ap (λ b. b && not (put_unflags (length v.cells) (cell_at v.cells) (g.col - 1) x)) q))
    p.cursor_row (omega (arith, l))

plain-joined : (g : GridView) (c : ℕ) (a : Attrs) → IsPlainGrid g → IsScalar c → drawn_columns c ≡ Some 0 → 0 < g.col
    → IsPlainGrid (joined g c a).grid
plain-joined g c a p s z some =
    let v = row_of_cursor g in
    let r = cursor_row g (drawable g p) in
    let P : PrintedGrid → Type 0 = λ d. IsPlainGrid d.grid in
    cond_both (not (is_widening v g.col c)) (record {
      grid = with_cursor_row g (joined_row v g.col c);
      sunk = [];
      printed = Joined;
    }) _ P
    (λ e. plain-row g (joined_row v g.col c) p
    (record {
      row = IsRow-joined v g.col c r.row s z some (omega (arith, r.wide, p.cursor_col))
          (not-true (is_widening v g.col c) e);
      wide = length-by_position (length v.cells) _ ∙ r.wide;
    })
    (λ q. q))
    (λ e. let widens = not-false (is_widening v g.col c) e in
    cond_both (g.width == 1) (record { grid = g; sunk = []; printed = Nothing }) _ P (λ _. p)
    (λ n. let two = not-one g.width n p.some_cols in
    cond_both (nat_lt g.col g.width) (record {
      grid = record (with_cursor_row g (placed v (g.col - 1) (joined_cell v g.col c) a)) { col = g.col + 1 };
      sunk = [];
      printed = Joined;
    }) (carried g c a) P
    (λ l. plain-widened g c a p s z some (ltb-true g.col g.width l) widens)
    (λ _. plain-carried g c a p s z two widens)))

-- ---- what is left aside

aside-carried : (g : GridView) (c : ℕ) (a : Attrs) → IsAside g (carried g c a).grid
aside-carried g c a =
    let h = with_cursor_row g (wiped_row (row_of_cursor g) (g.col - 1) g.col a) in
    aside-both g h (wrapped_on h false).grid (aside-same g) (aside-wrapped h false)

aside-joined : (g : GridView) (c : ℕ) (a : Attrs) → IsAside g (joined g c a).grid
aside-joined g c a =
    let v = row_of_cursor g in
    let P : PrintedGrid → Type 0 = λ d. IsAside g d.grid in
    cond_both (not (is_widening v g.col c)) _ _ P (λ _. aside-same g)
    (λ _. cond_both (g.width == 1) _ _ P (λ _. aside-same g)
    (λ _. cond_both (nat_lt g.col g.width) _ (carried g c a) P (λ _. aside-same g) (λ _. aside-carried g c a)))

-- ---- one character

pub record IsSound (g h : GridView) : Type 0 where
  pub plain : IsPlainGrid h
  pub size : grid_size h ≡ grid_size g

pub sound-printed : (g : GridView) (c : ℕ) (x : Extras) → IsPlainGrid g → IsScalar c
    → IsSound g (printed g c x.attrs).grid
sound-printed g c x p scalar =
    let a = x.attrs in
    let n = columns_of c in
    printed-either (IsSound g) g c a (λ _. record { plain = p; size = refl })
    (λ e h. let drawn = IsDrawn-here g c n e refl in
    let s = (made_to_fit g n true).grid in
    record {
      plain = plain-put s (cell_of c a) a n (plain-made g x n p) (IsCell-of c a scalar (or-false _ _ e).0 h) refl
          (span_of-cell c n a refl h) (IsMade-made g n true drawn.fits).fits;
      size = (aside-made g n).size;
    })
    (λ e k. let drawn = IsDrawn-here g c n e refl in
    record {
      plain = plain-joined g c a p scalar (drawn.drawn ∙ ap Some k) (drawn.after k);
      size = (aside-joined g c a).size;
    })

-- ---- the state

-- u is a plain state like s, but for what it shows
pub record IsLike (s u : State) : Type 0 where
  pub modes : u.modes ≡ s.modes
  pub style : u.style ≡ s.style
  pub size : size_shown u ≡ size_shown s
  pub plain : IsPlainState u

like-same : (s : State) → IsPlainState s → IsLike s s
like-same s h = record { modes = refl; style = refl; size = refl; plain = h }

like-typed : (s : State) (c : ℕ) → IsPlainState s → IsScalar c → IsLike s (effect (Print c) s).state
like-typed s c h scalar =
    let one = sound-printed s.shown c (extras_of s) h.1 scalar in
    cond_both (is_unhandled c) (calling (unhandled_char c ∷ []) s) (steps (typed c s))
    (λ (e : Effect). IsLike s e.state)
    (λ _. like-same s h)
    (λ _. record { modes = refl; style = refl; size = one.size; plain = (h.0, one.plain) })

pub like-text : (cs : List ℕ) (s : State) → IsPlainState s → AllByRecursion IsScalar cs
    → IsLike s (played (map Print cs) s)
like-text [] s h a = like-same s h
like-text (c ∷ cs) s h a =
    let one = like-typed s c h a.0 in
    let rest = like-text cs (effect (Print c) s).state one.plain a.1 in
    record {
      modes = rest.modes ∙ one.modes;
      style = rest.style ∙ one.style;
      size = rest.size ∙ one.size;
      plain = rest.plain;
    }
