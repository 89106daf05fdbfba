-- Erasing that is put off, and what is printed, set and erased before it is done.
use Rattle.std.proofs.Common.{◌≡◌, ◌∙◌, ◌<◌, ◌+◌, ◌-◌, ◌*◌, ℕ, zero, suc, Bool, true, false, cond, List, []}
use Rattle.std.proofs.Common.{sym, Option, Some, None, length, map, refl, subst, inl, inr, arith, replicate, not}
use Rattle.std.proofs.Common.{nat_le, nat_eq, ◌&&◌, Result, Ok, Err, ◌∷◌, ap, set, length-set}
use Rattle.std.proofs.Common.{get_or}
use Rattle.std.specs.Prelude.{All}
use Rattle.std.specs.List.{list_all}
use Rattle.std.specs.Int.{is_in_range}
use Rattle.std.specs.Str.{IsUtf8, chars}
use Rattle.std.specs.Prelude.{encode_utf8_all}
use Rattle.std.proofs.lemmas.Bool.{cases_Bool, and_parts, false≢true, cond-true, le-leb}
use Rattle.std.proofs.lemmas.Bool.Decides.{nat_tests}
use Rattle.std.proofs.lemmas.List.{get_or-set_same, set-set, map-id}
use Rattle.std.proofs.lemmas.Str.{chars-IsAscii, chars-nil, encodes-chars}
use Rattle.printable.specs.Printable.{IsPrintable}
use Rattle.printable.proofs.PrintableLemmas.{printable-ascii}
use Rattle.vt100_forms.specs.declared.attrs.Attrs.{Attrs}
use Rattle.vt100_forms.specs.declared.attrs.Color.TheVariants.{Idx}
use Rattle.vt100_forms.specs.Attrs.{default_attrs, with_bold}
use Rattle.vt100_cells.specs.Cell.{CellView, cell_of}
use Rattle.vt100_cells.specs.Cells.{cell_at, by_position}
use Rattle.vt100_cells.specs.Line.{span_of, put, wiped, wipe_unflags, put_unflags}
use Rattle.vt100_cells.proofs.ListLemmas.{cell_at-by_position, length-by_position, by_position_is}
use Rattle.vt100_cells.proofs.WidthLemmas.{drawn-is, drawn-ascii}
use Rattle.vt100_rows.specs.Row.{RowView, blank_row, placed, placed_each, wiped_row}
use Rattle.vt100_core.specs.Grid.{GridView, IsKept, row_of_cursor}
use Rattle.vt100_core.specs.Erase.{columns_erased}
use Rattle.vt100_core.specs.Scroll.{Scrolled, wrapped_on}
use Rattle.vt100_core.specs.Text.{printed_all}
use Rattle.vt100_core.proofs.EraseLemmas.{cursor_row_of}
use Rattle.vt100_core.proofs.TextLemmas.{span_of-cell, span_of-wide}
use Rattle.vt100_core.proofs.RunLemmas.{run-of, text_at, in-row}
use Rattle.vte_core.specs.Event.{Event, Print, Execute, Performs}
use Rattle.vte_core.proofs.Telling.{same_events}
use Rattle.vte_core.specs.Store.{each_alone}
use Rattle.vte_core.specs.Reported.{Reported}
use Rattle.vte_core.specs.declared.parser.Parser.{Parser}
use Rattle.screen_model.specs.State.{State, IsState}
use Rattle.screen_model.specs.Step.{Stepped, erased_right}
use Rattle.screen_model.specs.Call.{Call, ScreenView}
use Rattle.screen_model.specs.Effect.{Effect, plain_effect, partly, line_erased, csi_call, number_or}
use Rattle.screen_model.specs.Sgr.{Asks, change, asks, colored, read_on, read_groups}
use Rattle.vt100.specs.declared.error.ScreenError.{ScreenError}
use Rattle.vt100.specs.declared.screen.wrapped.WrappedScreen.{WrappedScreen}
use Rattle.vt100.specs.declared.screen.deferring.Deferring.{Deferring}
use Rattle.vt100.specs.Goes.{Does, MakesCalls, Steps}
use Rattle.vt100.specs.Tries.{MayScroll, SameBounds, alive}
use Rattle.vt100.specs.Runs.{typed_all, last_of}
use Rattle.vt100.specs.Deferring.{erased_by, erased_on, erased_late, settled, Defers, is_frequent, AreHandled}
use Rattle.vt100.proofs.EventLemmas.{does_live}
use Rattle.vt100.proofs.LimitsLemmas.{bounds_drawn, bounds_back, bounds_trans}
use Rattle.vt100.proofs.RunLemmas.{IsSpacing, drawn_as, typed_all-is, printable-handled, goes-kept, performs-goes}

-- ---- one row

-- a cell that is put where the erasing begins, and the erasing to the right of it
late-put-at : (f : ℕ → CellView) (c n : ℕ) (x : CellView) (a b : Attrs) (g h : ℕ → CellView) (k : ℕ) → k < n
    → c + 1 < n → x.wide ≡ false → g k ≡ wiped f c n a k → g c ≡ wiped f c n a c → h k ≡ put f c x b k
    → put g c x b k ≡ wiped h (c + 1) n a k
late-put-at f c n x a b g h k l room narrow gk gc hk = grind (arith, nat_tests)

-- an erasing in the place of another
late-wipe-at : (f : ℕ → CellView) (c n : ℕ) (a b : Attrs) (g : ℕ → CellView) (k : ℕ) → k < n
    → g k ≡ wiped f c n a k → wiped g c n b k ≡ wiped f c n b k
late-wipe-at f c n a b g k l gk = grind (arith, nat_tests)

late-placed : (v : RowView) (c : ℕ) (x : CellView) (a b : Attrs) → c + 1 < length v.cells → x.wide ≡ false
    → placed (wiped_row v c (length v.cells) a) c x b
    ≡ wiped_row (placed v c x b) (c + 1) (length v.cells) a
late-placed v c x a b room narrow =
    let n = length v.cells in
    let f = cell_at v.cells in
    let w = by_position n (wiped f c n a) in
    let p = by_position n (put f c x b) in
    let lw : length w ≡ n = length-by_position n (wiped f c n a) in
    let lp : length p ≡ n = length-by_position n (put f c x b) in
    let cells : by_position (length w) (put (cell_at w) c x b) ≡ by_position (length p) (wiped (cell_at p) (c + 1) n a) =
    rw (lw, lp) (by_position_is n (wiped (cell_at p) (c + 1) n a) (by_position n (put (cell_at w) c x b))
    (length-by_position n (put (cell_at w) c x b)) (λ k l. cell_at-by_position n (put (cell_at w) c x b) k l
    ∙ late-put-at f c n x a b (cell_at w) (cell_at p) k l room narrow (cell_at-by_position n (wiped f c n a) k l)
    (cell_at-by_position n (wiped f c n a) c (omega arith)) (cell_at-by_position n (put f c x b) k l))) in
    let wrapped : (v.wrapped && not (wipe_unflags n f c n)) && not (put_unflags (length w) (cell_at w) c x)
    ≡ (v.wrapped && not (put_unflags n f c x)) && not (wipe_unflags (length p) (cell_at p) (c + 1) n) =
    rw (lw, lp) (grind (arith, nat_tests)) in
    λ i. record { cells = cells i; wrapped = wrapped i }

pub late-wiped : (v : RowView) (c : ℕ) (a b : Attrs)
    → wiped_row (wiped_row v c (length v.cells) a) c (length v.cells) b ≡ wiped_row v c (length v.cells) b
late-wiped v c a b =
    let n = length v.cells in
    let f = cell_at v.cells in
    let w = by_position n (wiped f c n a) in
    let lw : length w ≡ n = length-by_position n (wiped f c n a) in
    let cells : by_position (length w) (wiped (cell_at w) c n b) ≡ by_position n (wiped f c n b) =
    rw lw (by_position_is n (wiped f c n b) (by_position n (wiped (cell_at w) c n b))
    (length-by_position n (wiped (cell_at w) c n b)) (λ k l. cell_at-by_position n (wiped (cell_at w) c n b) k l
    ∙ late-wipe-at f c n a b (cell_at w) k l (cell_at-by_position n (wiped f c n a) k l))) in
    let wrapped : (v.wrapped && not (wipe_unflags n f c n)) && not (wipe_unflags (length w) (cell_at w) c n)
    ≡ v.wrapped && not (wipe_unflags n f c n) = rw lw (grind (arith, nat_tests)) in
    λ i. record { cells = cells i; wrapped = wrapped i }

length-placed : (v : RowView) (i : ℕ) (x : CellView) (b : Attrs) → length (placed v i x b).cells ≡ length v.cells
length-placed v i x b = length-by_position (length v.cells) (put (cell_at v.cells) i x b)

-- a run that is put where the erasing begins
pub late-run : (xs : List ℕ) (v : RowView) (c n : ℕ) (a b : Attrs) → length v.cells ≡ n → c + length xs < n
    → All (λ (x : ℕ). (cell_of x b).wide ≡ false) xs
    → placed_each 1 (wiped_row v c n a) c xs b ≡ wiped_row (placed_each 1 v c xs b) (c + length xs) n a
late-run [] v c n a b wide room narrow = ap (λ (k : ℕ). wiped_row v k n a) (omega arith)
late-run (x ∷ xs) v c n a b wide room narrow =
    let p = placed v c (cell_of x b) b in
    let one : placed (wiped_row v c n a) c (cell_of x b) b ≡ wiped_row p (c + 1) n a =
    subst (λ (m : ℕ). placed (wiped_row v c m a) c (cell_of x b) b ≡ wiped_row p (c + 1) m a) wide
    (late-placed v c (cell_of x b) a b (omega arith) (narrow zero 0 (omega arith))) in
    ap (λ (r : RowView). placed_each 1 r (c + 1) xs b) one
    ∙ late-run xs p (c + 1) n a b (length-placed v c (cell_of x b) b ∙ wide) (omega arith)
    (λ k d l. narrow (suc k) d (omega (arith, l)))
    ∙ ap (λ (k : ℕ). wiped_row (placed_each 1 p (c + 1) xs b) k n a) (omega arith)

-- ---- the shown sheet

abbrev erased_at : GridView → Attrs → GridView
erased_at g a = columns_erased g g.col g.width a

-- printable characters take one column each, and their cells are narrow
narrow-printable : (x : ℕ) (a : Attrs) → IsPrintable x → (cell_of x a).wide ≡ false
narrow-printable x a p =
    let one : 1 ≡ span_of (cell_of x a) =
    span_of-cell x 1 a (drawn-is x 1 (sym (drawn-ascii x p.0 p.1))).1 (omega arith) in
    elim (cases_Bool (cell_of x a).wide) [
      | inl e ↦ absurd (omega (arith, one, span_of-wide (cell_of x a) e))
      | inr e ↦ e
    ]

late-text : (g : GridView) (xs : List ℕ) (a b : Attrs) → g.row < length g.rows
    → length (row_of_cursor g).cells ≡ g.width → g.col + length xs < g.width → All IsPrintable xs
    → text_at (run-of 1 (inl refl)) (erased_at g a) xs b ≡ erased_at (text_at (run-of 1 (inl refl)) g xs b) a
late-text g xs a b h wide room p =
    let v = row_of_cursor g in
    let W = wiped_row v g.col g.width a in
    let P = placed_each 1 v g.col xs b in
    let count : g.col + 1 * length xs ≡ g.col + length xs = omega arith in
    let end = set g.rows g.row (wiped_row P (g.col + length xs) g.width a) in
    let left : set (set g.rows g.row W) g.row (placed_each 1 (row_of_cursor (erased_at g a)) g.col xs b) ≡ end =
    ap (λ (u : RowView). set (set g.rows g.row W) g.row (placed_each 1 u g.col xs b))
    (get_or-set_same g.rows g.row W (blank_row 0) h)
    ∙ set-set g.rows g.row W (placed_each 1 W g.col xs b)
    ∙ ap (λ (u : RowView). set g.rows g.row u) (late-run xs v g.col g.width a b wide room
    (λ k d l. narrow-printable (get_or xs k d) b (p k d l))) in
    let right : set (set g.rows g.row P) g.row (wiped_row (row_of_cursor (text_at (run-of 1 (inl refl)) g xs b))
    (g.col + 1 * length xs) g.width a) ≡ end =
    ap (λ (u : RowView). set (set g.rows g.row P) g.row (wiped_row u (g.col + 1 * length xs) g.width a))
    (get_or-set_same g.rows g.row P (blank_row 0) h)
    ∙ set-set g.rows g.row P (wiped_row P (g.col + 1 * length xs) g.width a)
    ∙ ap (λ (k : ℕ). set g.rows g.row (wiped_row P k g.width a)) count in
    λ i. record g { rows = (left ∙ sym right) i; col = g.col + 1 * length xs }

-- a run that leaves a column of the row
run-here : (g : GridView) (xs : List ℕ) (b : Attrs) → 0 < length xs → All IsPrintable xs
    → g.row < length g.rows → g.col + length xs < g.width
    → printed_all g xs b ≡ record { grid = text_at (run-of 1 (inl refl)) g xs b; sunk = [] }
run-here g xs b some p h room =
    in-row (run-of 1 (inl refl)) g xs b (record { grid = g; sunk = [] }) some
    (λ k d l. sym (drawn-ascii (get_or xs k d) (p k d l).0 (p k d l).1)) (omega arith)
    (cond-true (nat_le (g.col + 1) g.width) _ (wrapped_on g true) (le-leb (g.col + 1) g.width (omega arith)))
    (omega arith) (omega arith) h

spacing-printable : (w : ℕ) (xs : List ℕ) → 0 < w → All IsPrintable xs → All (IsSpacing w) xs
spacing-printable w xs some p = λ k d l.
    let x = drawn-is (get_or xs k d) 1 (sym (drawn-ascii (get_or xs k d) (p k d l).0 (p k d l).1)) in
    record { drawn = x.0; some = omega (arith, x.1); fits = omega (arith, x.1) }

-- ---- a state

-- the sheet is such that its cursor's row is there, and as wide as it
pub record IsWide (s : State) : Type 0 where
  pub row : s.shown.row < length s.shown.rows
  pub wide : length (row_of_cursor s.shown).cells ≡ s.shown.width

pub IsWide-of : (s : State) → IsState s → IsWide s
IsWide-of s i = record {
  row = omega (arith, i.shown.sheet.count i.drawn, i.shown.cursor_row);
  wide = (cursor_row_of s.shown i.shown i.drawn).wide;
}

abbrev late_stepped : Attrs → Stepped → Stepped
late_stepped a t = record { state = erased_by a t.state; reports = t.reports }

late-typed : (s : State) (xs : List ℕ) (a : Attrs) → IsWide s → 0 < length xs → All IsPrintable xs
    → s.shown.col + length xs < s.shown.width → typed_all xs (erased_by a s) ≡ late_stepped a (typed_all xs s)
late-typed s xs a i some p room =
    let g = s.shown in
    let e = erased_by a s in
    let count = length-set g.rows g.row (wiped_row (row_of_cursor g) g.col g.width a) in
    let spacing = spacing-printable g.width xs (omega arith) p in
    let here = run-here g xs s.attrs some p i.row room in
    let there = run-here e.shown xs s.attrs some p (omega (arith, count, i.row)) room in
    let last = last_of xs s.last in
    typed_all-is xs e spacing
    ∙ ap (λ (o : Scrolled). drawn_as e o.grid last o.sunk) there
    ∙ ap (λ (h : GridView). drawn_as e h last []) (late-text g xs a s.attrs i.row i.wide room p)
    ∙ ap (λ (o : Scrolled). late_stepped a (drawn_as s o.grid last o.sunk)) (sym here)
    ∙ ap (late_stepped a) (sym (typed_all-is xs s spacing))

late-erased : (s : State) (a b : Attrs) → IsWide s → erased_by b (erased_by a s) ≡ erased_by b s
late-erased s a b i =
    let g = s.shown in
    let v = row_of_cursor g in
    let W = wiped_row v g.col g.width a in
    let rows : set (set g.rows g.row W) g.row (wiped_row (row_of_cursor (erased_at g a)) g.col g.width b)
    ≡ set g.rows g.row (wiped_row v g.col g.width b) =
    ap (λ (u : RowView). set (set g.rows g.row W) g.row (wiped_row u g.col g.width b))
    (get_or-set_same g.rows g.row W (blank_row 0) i.row)
    ∙ set-set g.rows g.row W (wiped_row W g.col g.width b)
    ∙ ap (λ (u : RowView). set g.rows g.row u)
    (subst (λ (m : ℕ). wiped_row (wiped_row v g.col m a) g.col m b ≡ wiped_row v g.col m b) i.wide
    (late-wiped v g.col a b)) in
    λ j. record s { shown = record g { rows = rows j } }

bounds-erased : (s : State) (a : Attrs) → SameBounds s (erased_by a s)
bounds-erased s a = bounds_drawn s _ s.last (record {
  height = refl;
  width = refl;
  kept = record {
    keeps = refl;
    capacity = refl;
  };
})

late-bounds : {C : Type 0} (a : Attrs) (p q : WrappedScreen C) → SameBounds p.screen.state q.screen.state
    → SameBounds (erased_by a p.screen.state) (erased_by a q.screen.state)
late-bounds a p q x =
    let s = p.screen.state in
    let t = q.screen.state in
    bounds_back s (erased_by a s) (erased_by a t) (bounds-erased s a)
    (bounds_trans s t (erased_by a t) x (bounds-erased t a))

-- ---- a screen

abbrev late : {C : Type 0} → Option Attrs → WrappedScreen C → WrappedScreen C
late o p = record { screen = erased_late o p.screen; callbacks = p.callbacks }

-- EL, in the place of what is put off
erased-right : (o : Option Attrs) (v : ScreenView) → IsWide v.state → v.failed ≡ false
    → erased_on v.state.attrs v ≡ alive (erased_right (erased_late o v).state)
erased-right None v i live = λ j. record { state = erased_by v.state.attrs v.state; failed = live j }
erased-right (Some a) v i live =
    λ j. record { state = sym (late-erased v.state a v.state.attrs i) j; failed = live j }

late-live : (o : Option Attrs) (v : ScreenView) → v.failed ≡ false → (erased_late o v).failed ≡ false
late-live None v h = h
late-live (Some a) v h = h

module _ {C : Type 0} {step : C → ScreenView → Call → C → ScreenView → Type 0}
    {scrolls : C → RowView → Bool → C → Type 0} where
  -- an effect that leaves the rows alone, and that no erasing changes
  does-late : (f : State → Effect) (a : Attrs) {c d : C} {v w : ScreenView} → (f v.state).calls ≡ []
      → f (erased_by a v.state) ≡ record {
        state = erased_by a (f v.state).state;
        reports = (f v.state).reports;
        calls = [];
      }
      → Does step scrolls f false c v d w → Does step scrolls f false c (erased_on a v) d (erased_on a w)
  does-late f a {c} {d} {v} {w} none same x = record {
    dead = λ e. ((x.dead e).0, ap (erased_on a) (x.dead e).1);
    live = λ e. elim (x.live e) [
      | inl h ↦
          let told : MakesCalls step h.0 (alive (f v.state).state) [] d w = rw none at h.2 in
          inl (rw same (h.0, h.1, (told.0, ap (erased_on a) told.1)))
      | inr h ↦ absurd (false≢true h.is_allocating)
    ];
  }

  -- SGR of which each group is handled
  pub does_late_sgr : (gs : List (List ℕ)) (o : Option Attrs) {c d : C} {v w : ScreenView} → AreHandled gs
      → Does step scrolls (plain_effect None gs 0x6D) false c v d w
      → Does step scrolls (plain_effect None gs 0x6D) false c (erased_late o v) d (erased_late o w)
  does_late_sgr gs None h x = x
  does_late_sgr gs (Some a) {v = v} h x =
      let none : (plain_effect None gs 0x6D v.state).calls ≡ [] =
      ap (λ (n : ℕ). replicate n (csi_call [] gs 0x6D)) (h v.state.attrs) in
      does-late (plain_effect None gs 0x6D) a none (λ i. record {
        state = erased_by a (plain_effect None gs 0x6D v.state).state;
        reports = [];
        calls = none i;
      }) x

  does_el : (gs : List (List ℕ)) (c : C) (v w : ScreenView) → v.failed ≡ false → number_or 0 gs ≡ 0
      → w ≡ alive (erased_right v.state) → Does step scrolls (plain_effect None gs 0x4B) false c v c w
  does_el gs c v w live zero_is is =
      subst (λ (n : ℕ). Does step scrolls (λ s. partly (line_erased n s) (csi_call [] gs 0x4B)) false c v c w)
      (sym zero_is)
      (does_live (λ s. partly (line_erased 0 s) (csi_call [] gs 0x4B)) live (inl (c, refl, (refl, is))))

  -- EL, in the place of what is put off
  pub does_late_el : (gs : List (List ℕ)) (o : Option Attrs) (c : C) (v : ScreenView) → IsWide v.state
      → v.failed ≡ false → number_or 0 gs ≡ 0
      → Does step scrolls (plain_effect None gs 0x4B) false c (erased_late o v) c (erased_on v.state.attrs v)
  does_late_el gs o c v i live zero_is =
      does_el gs c (erased_late o v) (erased_on v.state.attrs v) (late-live o v live) zero_is (erased-right o v i live)

  -- EL, where nothing is put off
  pub does_put_off : (gs : List (List ℕ)) (c : C) (v : ScreenView) → v.failed ≡ false → number_or 0 gs ≡ 0
      → Does step scrolls (plain_effect None gs 0x4B) false c v c (erased_on v.state.attrs v)
  does_put_off gs c v live zero_is =
      does_el gs c v (erased_on v.state.attrs v) live zero_is
      (λ j. record { state = erased_by v.state.attrs v.state; failed = live j })

  -- EL with the default attributes
  pub does_el_plain : (gs : List (List ℕ)) (c : C) (v w : ScreenView) → v.failed ≡ false → number_or 0 gs ≡ 0
      → v.state.attrs ≡ default_attrs → w ≡ erased_on default_attrs v
      → Does step scrolls (plain_effect None gs 0x4B) false c v c w
  does_el_plain gs c v w live zero_is plain is =
      does_el gs c v w live zero_is (is ∙ ap (λ (a : Attrs). erased_on a v) (sym plain)
      ∙ (λ j. record { state = erased_by v.state.attrs v.state; failed = live j }))

-- a run that leaves a column of the row
over-run : {C : Type 0} {scrolls : C → RowView → Bool → C → Type 0} (o : Option Attrs) (xs : List ℕ)
    {p q : WrappedScreen C} (result : Result (Unit {0}) ScreenError) → p.screen.failed ≡ false
    → IsWide p.screen.state → 0 < length xs → All IsPrintable xs
    → p.screen.state.shown.col + length xs < p.screen.state.shown.width
    → MayScroll scrolls (typed_all xs) p result q → MayScroll scrolls (typed_all xs) (late o p) result (late o q)
over-run None xs result live i some printable room x = x
over-run {C} {scrolls} (Some a) xs {p} {q} (Ok u) live i some printable room x =
    let t = late-typed p.screen.state xs a i some printable room in
    record {
      tries = record {
        live = live;
        screen = ap (erased_on a) x.tries.screen ∙ ap (λ (y : Stepped). alive y.state) (sym t);
        receives = rw t x.tries.receives;
        memory = x.tries.memory;
        reported = λ e. rw t (x.tries.reported e);
        refused = x.tries.refused;
        dead = λ f. absurd (false≢true (sym live ∙ f));
      };
      bounds = late-bounds a p q x.bounds;
      keeps_none = x.keeps_none;
      stays = λ l n. x.stays l (rw t at n);
    }
over-run {C} {scrolls} (Some a) xs {p} {q} (Err e) live i some printable room x =
    let t = late-typed p.screen.state xs a i some printable room in
    record {
      tries = record {
        live = tt;
        screen = tt;
        receives = tt;
        memory = x.tries.memory;
        reported = λ e. rw t (x.tries.reported e);
        refused = x.tries.refused;
        dead = λ f. absurd (false≢true (sym live ∙ f));
      };
      bounds = late-bounds a p q x.bounds;
      keeps_none = x.keeps_none;
      stays = λ l n. x.stays l (rw t at n);
    }

late-kept : {C : Type 0} (o : Option Attrs) (p : WrappedScreen C) → IsKept p.screen.state.shown.kept
    → IsKept (late o p).screen.state.shown.kept
late-kept None p k = k
late-kept (Some a) p k = k

-- ---- a performer

some-events : (cs bs : List ℕ) → encode_utf8_all cs ≡ bs → 0 < length bs → 0 < length (map Print cs)
some-events [] bs e h = absurd (omega (arith, ap length e, h))
some-events (c ∷ cs) bs e h = omega arith

abbrev mid : {C : Type 0} → Deferring C → WrappedScreen C → Deferring C
mid p w = record { screen = record (p.screen) { now = w }; erasing = None }

module _ {C : Type 0} (step : C → ScreenView → Call → C → ScreenView → Type 0)
    (scrolls : C → RowView → Bool → C → Type 0) where
  some-late : (e : Event) (es : List Event) (p q : Deferring C) → q.screen.ghost_name ≡ p.screen.ghost_name
      → Performs (Steps step scrolls) (settled p) (e ∷ es) (settled q) → Performs (Defers step scrolls) p (e ∷ es) q
  some-late e [] p q same (m, s, h) =
      (q, (subst (λ (x : WrappedScreen C). Steps step scrolls (settled p) e x) (sym h) s, same), refl)
  some-late e (f ∷ es) p q same (m, s, h) = (mid p m, (s, refl), some-late f es (mid p m) q same h)

  -- events that take effect, whether or not something is put off before them and after them
  performs_late : (es : List Event) (p q : Deferring C) → q.screen.ghost_name ≡ p.screen.ghost_name
      → 0 < length es → Performs (Steps step scrolls) (settled p) es (settled q) → Performs (Defers step scrolls) p es q
  performs_late [] p q same some h = absurd (omega arith)
  performs_late (e ∷ es) p q same some h = some-late e es p q same h

  pub performs_settled : (es : List Event) (p q : Deferring C) → Performs (Defers step scrolls) p es q
      → Performs (Steps step scrolls) (settled p) es (settled q)
  performs_settled [] p q h = ap settled h
  performs_settled (e ∷ es) p q (m, s, h) = (settled m, s.0, performs_settled es m q h)

  pub keeps_name : (es : List Event) (p q : Deferring C) → Performs (Defers step scrolls) p es q
      → q.screen.ghost_name ≡ p.screen.ghost_name
  keeps_name [] p q h = ap (λ (x : Deferring C). x.screen.ghost_name) h
  keeps_name (e ∷ es) p q (m, s, h) = keeps_name es m q h ∙ s.1

  pub reported_settled : (r : Parser 1024) (p q : Deferring C) (bytes : List ℕ)
      → Reported (Defers step scrolls) 1024 r p bytes q → Reported (Steps step scrolls) 1024 r (settled p) bytes (settled q)
  reported_settled r p q bytes x = record {
    reported = x.reported;
    performed = performs_settled x.reported p q x.performed;
    none = x.none;
    added = x.added;
  }

  -- ---- text

  -- printable ASCII that leaves a column of the row
  pub late_ascii : (o : Option Attrs) (bs : List ℕ) {p q : WrappedScreen C} (result : Result (Unit {0}) ScreenError)
      → p.screen.failed ≡ false → IsState p.screen.state → 0 < length bs → All IsPrintable bs
      → p.screen.state.shown.col + length bs < p.screen.state.shown.width
      → MayScroll scrolls (typed_all (map (λ (b : ℕ). b) bs)) p result q
      → Performs (Steps step scrolls) (late o p) (map Print (chars bs)) (late o q)
  late_ascii o bs {p} {q} result live is some printable room x =
      same_events (Steps step scrolls) (late o p) (late o q) (map Print bs) (map Print (chars bs))
      (ap (map Print) (sym (chars-IsAscii bs (printable-ascii bs printable))))
      (performs-goes step scrolls (map Print bs) (late o p) (late o q)
      (goes-kept step scrolls bs result some (λ i e l. printable-handled (get_or bs i e) (printable i e l))
      (λ f. late-kept o p is.shown.kept)
      (over-run o bs result live (IsWide-of p.screen.state is) some printable room
      (subst (λ (ys : List ℕ). MayScroll scrolls (typed_all ys) p result q) (map-id bs) x))))

  pub no_text : (bs : List ℕ) (p : Deferring C) → length bs ≡ 0
      → Performs (Defers step scrolls) p (map Print (chars bs)) p
  no_text [] p none =
      same_events (Defers step scrolls) p p [] (map Print (chars [])) (ap (map Print) (sym chars-nil)) refl
  no_text (x ∷ xs) p none = absurd (omega arith)

  pub no_controls : (bs : List ℕ) (p : Deferring C) → length bs ≡ 0
      → Performs (Defers step scrolls) p (map Execute bs) p
  no_controls [] p none = refl
  no_controls (x ∷ xs) p none = absurd (omega arith)

  -- controls that are executed, whether or not something is put off before them and after them
  pub performs_controls : (bs : List ℕ) (p q : Deferring C) → 0 < length bs
      → q.screen.ghost_name ≡ p.screen.ghost_name
      → Performs (Steps step scrolls) (settled p) (map Execute bs) (settled q)
      → Performs (Defers step scrolls) p (map Execute bs) q
  performs_controls [] p q some same h = absurd (omega arith)
  performs_controls (b ∷ bs) p q some same h = some-late (Execute b) (map Execute bs) p q same h

  -- a text that is printed, whether or not something is put off before it and after it
  pub performs_text : (bs : List ℕ) (p q : Deferring C) → IsUtf8 bs → 0 < length bs
      → q.screen.ghost_name ≡ p.screen.ghost_name
      → Performs (Steps step scrolls) (settled p) (map Print (chars bs)) (settled q)
      → Performs (Defers step scrolls) p (map Print (chars bs)) q
  performs_text bs p q u some same h =
      performs_late (map Print (chars bs)) p q same (some-events (chars bs) bs (encodes-chars bs u) some) h

  -- a text that is printed while nothing is put off
  pub text_at_once : (bs : List ℕ) (p : Deferring C) (w : WrappedScreen C) → p.erasing ≡ None → IsUtf8 bs
      → Performs (Steps step scrolls) p.screen.now (map Print (chars bs)) w
      → Performs (Defers step scrolls) p (map Print (chars bs)) (record p { screen = record (p.screen) { now = w } })
  text_at_once [] p w none u h =
      let at = λ (y : WrappedScreen C). let d : Deferring C = record p { screen = record (p.screen) { now = y } } in d in
      let e : map Print (chars []) ≡ [] = ap (map Print) chars-nil in
      same_events (Defers step scrolls) p (at w) [] (map Print (chars [])) (sym e)
      (ap at (same_events (Steps step scrolls) p.screen.now w (map Print (chars [])) [] e h))
  text_at_once (b ∷ bs) p w none u h =
      performs_text (b ∷ bs) p _ u (omega arith) refl (rw none h)

-- ---- SGR

color-asks : (n : ℕ) (gs : List (List ℕ)) → is_in_range 30 37 n ≡ true
    → asks (n ∷ []) gs ≡ change (colored true (Idx (n - 30))) 0
color-asks n gs h =
    let foreground : nat_eq n 38 ≡ false = grind (arith, nat_tests) in
    let background : nat_eq n 48 ≡ false = grind (arith, nat_tests) in
    rw (foreground, background, h) refl

handled-code : (n : ℕ) (ns : List ℕ) (a : Attrs) → is_frequent n ≡ true
    → ((b : Attrs) → (read_groups (each_alone ns) 0 b).unhandled ≡ 0)
    → (read_groups (each_alone (n ∷ ns)) 0 a).unhandled ≡ 0
handled-code n ns a h more =
    let P = λ (m : ℕ). (read_groups (each_alone (m ∷ ns)) 0 a).unhandled ≡ 0 in
    elim (cases_Bool (nat_eq n 0)) [
      | inl e ↦
          let is : 0 ≡ n = grind (arith, nat_tests) in
          subst P is (more default_attrs)
      | inr e ↦ elim (cases_Bool (nat_eq n 1)) [
        | inl f ↦
            let is : 1 ≡ n = grind (arith, nat_tests) in
            subst P is (more (with_bold a))
        | inr f ↦
            let color : is_in_range 30 37 n ≡ true = rw (e, f) at h in
            subst (λ (x : Asks). (read_on (read_groups (each_alone ns)) a x).unhandled ≡ 0)
            (sym (color-asks n (each_alone ns) color)) (more (colored true (Idx (n - 30)) a))
      ]
    ]

read_frequent : (ns : List ℕ) → list_all is_frequent ns ≡ true → (a : Attrs)
    → (read_groups (each_alone ns) 0 a).unhandled ≡ 0
read_frequent [] h a = refl
read_frequent (n ∷ ns) h a =
    let parts = and_parts (is_frequent n) (list_all is_frequent ns) h in
    handled-code n ns a parts.0 (read_frequent ns parts.1)

pub frequent_handled : (ns : List ℕ) → list_all is_frequent ns ≡ true → AreHandled (each_alone ns)
frequent_handled [] h a = refl
frequent_handled (n ∷ ns) h a = read_frequent (n ∷ ns) h a
