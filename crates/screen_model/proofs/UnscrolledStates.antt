-- What is true of each terminal that shows no kept row stays true, step by step.
use Rattle.std.proofs.Common.{◌≡◌, ◌∙◌, ℕ, zero, suc, ◌+◌, ◌-◌, ◌^◌, ◌<◌, ◌≤◌, Bool, true, false, not, Option}
use Rattle.std.proofs.Common.{Some, None, min, ap, arith, refl, sym, subst, if◌then◌else◌, cond}
use Rattle.std.specs.Char.{IsScalar}
use Rattle.std.proofs.lemmas.Bool.{cond_both, false≢true}
use Rattle.vt100_forms.specs.Attrs.{IsProper}
use Rattle.vt100_forms.proofs.AttrsLemmas.{default-proper}
use Rattle.vt100_forms.specs.declared.attrs.Attrs.{Attrs}
use Rattle.vt100_rows.specs.Row.{RowView}
use Rattle.vt100_core.specs.Grid.{GridView, IsGrid, IsAllocated, new_grid, allocated, cleared, with_cursor_row}
use Rattle.vt100_core.specs.Grid.{with_rows}
use Rattle.vt100_core.specs.declared.scrollback.Scrollback.TheVariants.{Disabled, Enabled}
use Rattle.vt100_core.specs.declared.printed.Printed.{Printed}
use Rattle.vt100_core.specs.declared.printed.Printed.TheVariants.{Spacing}
use Rattle.vt100_core.specs.Cursor.{tab_stop, cursor_saved, cursor_restored}
use Rattle.vt100_core.specs.Scroll.{scrollback_shown}
use Rattle.vt100_core.specs.Erase.{columns_erased}
use Rattle.vt100_core.specs.Text.{printed}
use Rattle.vt100_core.proofs.EraseLemmas.{IsGrid-row_erased, IsGrid-columns_erased, IsGrid-cells_inserted}
use Rattle.vt100_core.proofs.EraseLemmas.{IsGrid-cells_deleted, IsGrid-all_erased, IsGrid-all_erased_forward}
use Rattle.vt100_core.proofs.EraseLemmas.{IsGrid-all_erased_backward, columns_to_cursor-fit}
use Rattle.screen_model.specs.State.{State, IsState, main_sheet, alternate_sheet, fresh_state}
use Rattle.screen_model.specs.Step.{Stepped, with_shown, last_after, typed, typed_times}
use Rattle.screen_model.specs.Step.{repeated_last, repeated, moved_left, moved_right, tabbed, at_column, at_row}
use Rattle.screen_model.specs.Step.{at_place}
use Rattle.screen_model.specs.Step.{cursor_up, cursor_down, line_above, line_below, line_fed, line_fed_back, in_region}
use Rattle.screen_model.specs.Step.{saved, restored, erased_below, erased_above, erased_all, erased_kept, erased_right}
use Rattle.screen_model.specs.Step.{erased_left, erased_row, cells_erased, cells_added, cells_taken, lines_added}
use Rattle.screen_model.specs.Step.{lines_taken, region_up, region_down, with_origin_mode, alternate_shown, main_shown}
use Rattle.screen_model.specs.Step.{alternate_cleared, alternate_entered, alternate_left, made_anew, resized_to}
use Rattle.screen_model.proofs.RowTraits.{IsKnown, sound}
use Rattle.screen_model.proofs.SheetTraits.{IsCleanSheet, sheet-proper, sheet-all_erased, sheet-all_erased_forward}
use Rattle.screen_model.proofs.SheetTraits.{sheet-all_erased_backward, sheet-row_erased, sheet-columns_erased}
use Rattle.screen_model.proofs.SheetTraits.{sheet-cells_inserted, sheet-cells_deleted, sheet-lines_inserted}
use Rattle.screen_model.proofs.SheetTraits.{sheet-lines_deleted, sheet-scrolled_down, sheet-fed_up, sheet-region}
use Rattle.screen_model.proofs.SheetTraits.{sheet-scrolled_up, sheet-fed, sheet-scrollback_shown}
use Rattle.screen_model.proofs.SheetTraits.{sheet-scrollback_erased, sheet-printed, sheet-new, sheet-allocated}
use Rattle.screen_model.proofs.SheetTraits.{sheet-cleared, sheet-resized}
use Rattle.screen_model.proofs.UnscrolledSheets.{Limits, IsUnscrolledSheet, IsFineSheet, IsShownSheet}
use Rattle.screen_model.proofs.UnscrolledSheets.{row-drawn, positions-drawn, cursors-drawn, drawn-col, drawn-row}
use Rattle.screen_model.proofs.UnscrolledSheets.{drawn-cursor_at, drawn-origin, drawn-region, drawn-down, drawn-up}
use Rattle.screen_model.proofs.UnscrolledSheets.{drawn-fed_up, drawn-fed, drawn-scrolled_up, drawn-lines_inserted}
use Rattle.screen_model.proofs.UnscrolledSheets.{drawn-lines_deleted, drawn-scrolled_down}
use Rattle.screen_model.proofs.UnscrolledTexts.{drawn-printed}
use Rattle.screen_model.proofs.UnscrolledSizes.{new-fine, drawn-allocated, fine-cleared, drawn-cleared, none-shown}
use Rattle.screen_model.proofs.UnscrolledSizes.{drawn-none_kept, fine-resized, some-resized}
use Rattle.screen_model.proofs.StateLemmas.{state_whole}

-- a terminal's size, and how many rows it keeps
pub record Bounds : Type 0 where
  pub height : ℕ
  pub width : ℕ
  pub capacity : ℕ

pub record AreBounds (b : Bounds) : Type 0 where
  pub some_rows : 0 < b.height
  pub few_rows : b.height < 2 ^ 16
  pub some_cols : 0 < b.width
  pub few_cols : b.width < 2 ^ 16
  pub few : b.capacity < 2 ^ 64

-- those of its main sheet, and of its alternate one
abbrev pub limits : Bounds → Bool → Limits
limits b alternate = record {
  height = b.height;
  width = b.width;
  keeps = not alternate;
  capacity = if alternate then 0 else b.capacity;
}

-- the drawing and the saved attributes, and the last character that was drawn
pub record IsDrawnWith (drawing saved : Attrs) (latest : Option ℕ) : Type 0 where
  pub attrs : IsProper drawing
  pub saved_attrs : IsProper saved
  pub last : (c : ℕ) → latest ≡ Some c → IsScalar c × IsKnown c

-- the sheet that is shown, and the other one
pub record IsUnscrolled (b : Bounds) (alternate : Bool) (g h : GridView) (attrs saved : Attrs) (last : Option ℕ)
    : Type 0 where
  pub bounds : AreBounds b
  pub shown : IsShownSheet (limits b alternate) g
  pub clean : IsCleanSheet sound g
  pub other : IsFineSheet (limits b (not alternate)) h
  pub other_clean : IsCleanSheet sound h
  pub main : alternate ≡ true → IsAllocated h
  pub drawn : IsDrawnWith attrs saved last

abbrev pub IsUnscrolledState : Bounds → State → Type 0
IsUnscrolledState b s = IsUnscrolled b s.alternate s.shown s.other s.attrs s.saved_attrs s.last

not-not : (c : Bool) → not (not c) ≡ c
not-not true = refl
not-not false = refl

pub is-state : (b : Bounds) (s : State) → IsUnscrolledState b s → IsState s
is-state b s w =
    let shown = w.shown.fine in
    state_whole s w.shown.some w.main (w.other.limits.height ∙ sym shown.limits.height)
    (w.other.limits.width ∙ sym shown.limits.width) shown.limits.keeps (w.other.limits.keeps ∙ not-not s.alternate)
    w.drawn.attrs w.drawn.saved_attrs (sheet-proper sound (λ a p. p) s.shown w.clean)
    (sheet-proper sound (λ a p. p) s.other w.other_clean) shown.grid w.other.grid

-- ---- the shown sheet

pub well-with : (b : Bounds) (s : State) (g : GridView) (attrs saved : Attrs) (last : Option ℕ) → IsUnscrolledState b s
    → IsShownSheet (limits b s.alternate) g → IsCleanSheet sound g → IsDrawnWith attrs saved last
    → IsUnscrolled b s.alternate g s.other attrs saved last
well-with b s g attrs saved last w shown clean drawn = record {
  bounds = w.bounds;
  shown = shown;
  clean = clean;
  other = w.other;
  other_clean = w.other_clean;
  main = w.main;
  drawn = drawn;
}

well-shown : (b : Bounds) (s : State) (g : GridView) → IsUnscrolledState b s → IsShownSheet (limits b s.alternate) g
    → IsCleanSheet sound g → IsUnscrolledState b (with_shown s g)
well-shown b s g w shown clean = well-with b s g s.attrs s.saved_attrs s.last w shown clean w.drawn

-- the row of the cursor becomes this one, or every row one by its place
well-row : (b : Bounds) (s : State) (v : RowView) → IsUnscrolledState b s → IsGrid (with_cursor_row s.shown v)
    → IsCleanSheet sound (with_cursor_row s.shown v) → IsUnscrolledState b (with_shown s (with_cursor_row s.shown v))
well-row b s v w grid clean = well-shown b s _ w (row-drawn _ s.shown s.shown.row v w.shown grid) clean

well-rows : (b : Bounds) (s : State) (f : ℕ → RowView) → IsUnscrolledState b s → IsGrid (with_rows s.shown f)
    → IsCleanSheet sound (with_rows s.shown f) → IsUnscrolledState b (with_shown s (with_rows s.shown f))
well-rows b s f w grid clean = well-shown b s _ w (positions-drawn _ s.shown f w.shown grid) clean

abbrev pub Keeps : (State → State) → Type 0
Keeps f = (b : Bounds) (s : State) → IsUnscrolledState b s → IsUnscrolledState b (f s)

abbrev pub KeepsStepped : (State → Stepped) → Type 0
KeepsStepped f = Keeps (λ s. (f s).state)

-- ---- text

last-kept : (p : Printed) (c : ℕ) (last : Option ℕ) → IsScalar c → IsKnown c
    → ((d : ℕ) → last ≡ Some d → IsScalar d × IsKnown d)
    → (d : ℕ) → last_after p c last ≡ Some d → IsScalar d × IsKnown d
last-kept Spacing c last s k h d e = let same : c ≡ d = cc in (subst IsScalar same s, subst IsKnown same k)
last-kept p c last s k h d e = h d e

pub well-typed : (c : ℕ) → IsScalar c → IsKnown c → KeepsStepped (typed c)
well-typed c scalar known b s w =
    well-with b s _ _ _ _ w (drawn-printed _ s.shown c s.attrs w.shown scalar)
    (sheet-printed sound s.shown c s.attrs known w.drawn.attrs w.clean) (record {
      attrs = w.drawn.attrs;
      saved_attrs = w.drawn.saved_attrs;
      last = last-kept (printed s.shown c s.attrs).printed c s.last scalar known w.drawn.last;
    })

typed-times : (n c : ℕ) → IsScalar c → IsKnown c → KeepsStepped (typed_times n c)
typed-times zero c scalar known b s w = w
typed-times (suc n) c scalar known b s w =
    well-typed c scalar known b (typed_times n c s).state (typed-times n c scalar known b s w)

typed-last : (o : Option ℕ) (n : ℕ) → ((c : ℕ) → o ≡ Some c → IsScalar c × IsKnown c) → KeepsStepped (repeated_last o n)
typed-last None n h b s w = w
typed-last (Some c) n h b s w = let is = h c refl in typed-times n c is.0 is.1 b s w

pub well-repeated : (n : ℕ) → KeepsStepped (repeated n)
well-repeated n b s w = typed-last s.last n w.drawn.last b s w

-- ---- the cursor

pub well-moved_left : (n : ℕ) → Keeps (moved_left n)
well-moved_left n b s w =
    well-shown b s _ w (drawn-col _ s.shown (s.shown.col - n)
    (omega (arith, w.shown.fine.grid.cursor_col)) w.shown) w.clean

pub well-moved_right : (n : ℕ) → Keeps (moved_right n)
well-moved_right n b s w =
    well-shown b s _ w (drawn-col _ s.shown (min (s.shown.col + n) (s.shown.width - 1)) (omega arith) w.shown) w.clean

pub well-tabbed : Keeps tabbed
well-tabbed b s w = well-shown b s _ w (drawn-col _ s.shown (tab_stop s.shown) (omega arith) w.shown) w.clean

pub well-at_column : (n : ℕ) → Keeps (at_column n)
well-at_column n b s w =
    well-shown b s _ w (drawn-col _ s.shown (min n (s.shown.width - 1)) (omega arith) w.shown) w.clean

pub well-at_row : (n : ℕ) → Keeps (at_row n)
well-at_row n b s w =
    well-shown b s _ w (drawn-row _ s.shown (min n (s.shown.height - 1))
    (omega (arith, w.shown.fine.grid.some_rows)) w.shown) w.clean

pub well-at_place : (row col : ℕ) → Keeps (at_place row col)
well-at_place row col b s w = well-shown b s _ w (drawn-cursor_at _ s.shown row col w.shown) w.clean

pub well-moved_up : (n : ℕ) → Keeps (cursor_up n)
well-moved_up n b s w = well-shown b s _ w (drawn-up _ s.shown n w.shown) w.clean

pub well-moved_down : (n : ℕ) → Keeps (cursor_down n)
well-moved_down n b s w = well-shown b s _ w (drawn-down _ s.shown n w.shown) w.clean

pub well-line_above : (n : ℕ) → Keeps (line_above n)
well-line_above n b s w = well-moved_up n b (at_column 0 s) (well-at_column 0 b s w)

pub well-line_below : (n : ℕ) → Keeps (line_below n)
well-line_below n b s w = well-moved_down n b (at_column 0 s) (well-at_column 0 b s w)

pub well-line_fed : KeepsStepped line_fed
well-line_fed b s w = well-shown b s _ w (drawn-fed _ s.shown 1 w.shown) (sheet-fed sound s.shown 1 w.clean)

pub well-line_fed_back : Keeps line_fed_back
well-line_fed_back b s w = well-shown b s _ w (drawn-fed_up _ s.shown 1 w.shown) (sheet-fed_up sound s.shown 1 w.clean)

pub well-in_region : (top bottom : ℕ) → Keeps (in_region top bottom)
well-in_region top bottom b s w =
    well-shown b s _ w (drawn-region _ s.shown top bottom w.shown) (sheet-region sound s.shown top bottom w.clean)

pub well-saved : Keeps saved
well-saved b s w =
    let i = w.shown.fine.grid in
    well-with b s _ _ _ _ w
    (cursors-drawn _ s.shown (cursor_saved s.shown) w.shown i.cursor_row i.cursor_col i.cursor_row i.cursor_col) w.clean
    (record { attrs = w.drawn.attrs; saved_attrs = w.drawn.attrs; last = w.drawn.last })

pub well-restored : Keeps restored
well-restored b s w =
    let i = w.shown.fine.grid in
    well-with b s _ _ _ _ w
    (cursors-drawn _ s.shown (cursor_restored s.shown) w.shown i.saved_row i.saved_col i.saved_row i.saved_col) w.clean
    (record { attrs = w.drawn.saved_attrs; saved_attrs = w.drawn.saved_attrs; last = w.drawn.last })

-- ---- erasing, and cells and lines that come in and go

pub well-erased_below : Keeps erased_below
well-erased_below b s w =
    well-rows b s _ w (IsGrid-all_erased_forward s.shown s.attrs w.shown.fine.grid w.shown.some)
    (sheet-all_erased_forward sound s.shown s.attrs w.drawn.attrs w.clean)

pub well-erased_above : Keeps erased_above
well-erased_above b s w =
    well-rows b s _ w (IsGrid-all_erased_backward s.shown s.attrs w.shown.fine.grid w.shown.some)
    (sheet-all_erased_backward sound s.shown s.attrs w.drawn.attrs w.clean)

pub well-erased_all : Keeps erased_all
well-erased_all b s w = well-rows b s _ w (IsGrid-all_erased s.shown s.attrs w.shown.fine.grid w.shown.some)
    (sheet-all_erased sound s.shown s.attrs w.drawn.attrs w.clean)

pub well-erased_kept : KeepsStepped erased_kept
well-erased_kept b s w = well-shown b s _ w (drawn-none_kept _ s.shown w.shown)
    (sheet-scrollback_erased sound s.shown w.clean)

well-columns_erased : (from to : ℕ) (b : Bounds) (s : State) → to ≤ s.shown.width → IsUnscrolledState b s
    → IsUnscrolledState b (with_shown s (columns_erased s.shown from to s.attrs))
well-columns_erased from to b s h w =
    well-row b s _ w (IsGrid-columns_erased s.shown from to s.attrs w.shown.fine.grid w.shown.some h)
    (sheet-columns_erased sound s.shown from to s.attrs w.drawn.attrs w.clean)

pub well-erased_right : Keeps erased_right
well-erased_right b s w = well-columns_erased s.shown.col s.shown.width b s (omega arith) w

pub well-erased_left : Keeps erased_left
well-erased_left b s w = well-columns_erased 0 _ b s (columns_to_cursor-fit s.shown w.shown.fine.grid) w

pub well-erased_row : Keeps erased_row
well-erased_row b s w = well-row b s _ w (IsGrid-row_erased s.shown s.attrs w.shown.fine.grid w.shown.some)
    (sheet-row_erased sound s.shown s.attrs w.drawn.attrs w.clean)

pub well-cells_erased : (n : ℕ) → Keeps (cells_erased n)
well-cells_erased n b s w = well-columns_erased s.shown.col (min (s.shown.col + n) s.shown.width) b s (omega arith) w

pub well-cells_added : (n : ℕ) → Keeps (cells_added n)
well-cells_added n b s w = well-row b s _ w (IsGrid-cells_inserted s.shown n w.shown.fine.grid w.shown.some)
    (sheet-cells_inserted sound s.shown n w.clean)

pub well-cells_taken : (n : ℕ) → Keeps (cells_taken n)
well-cells_taken n b s w = well-row b s _ w (IsGrid-cells_deleted s.shown n w.shown.fine.grid w.shown.some)
    (sheet-cells_deleted sound s.shown n w.clean)

pub well-lines_added : (n : ℕ) → Keeps (lines_added n)
well-lines_added n b s w = well-shown b s _ w (drawn-lines_inserted _ s.shown n w.shown)
    (sheet-lines_inserted sound s.shown n w.clean)

pub well-lines_taken : (n : ℕ) → Keeps (lines_taken n)
well-lines_taken n b s w = well-shown b s _ w (drawn-lines_deleted _ s.shown n w.shown)
    (sheet-lines_deleted sound s.shown n w.clean)

pub well-region_up : (n : ℕ) → KeepsStepped (region_up n)
well-region_up n b s w = well-shown b s _ w (drawn-scrolled_up _ s.shown n w.shown)
    (sheet-scrolled_up sound s.shown n w.clean)

pub well-region_down : (n : ℕ) → Keeps (region_down n)
well-region_down n b s w = well-shown b s _ w (drawn-scrolled_down _ s.shown n w.shown)
    (sheet-scrolled_down sound s.shown n w.clean)

pub well-origin : (mode : Bool) → Keeps (with_origin_mode mode)
well-origin mode b s w = well-shown b s _ w (drawn-origin _ s.shown mode w.shown) w.clean

-- ---- the alternate sheet

fine-as : (b : Bounds) (p q : Bool) (g : GridView) → p ≡ q → IsFineSheet (limits b p) g → IsFineSheet (limits b q) g
fine-as b p q g e h = subst (λ x. IsFineSheet (limits b x) g) e h

pub well-alternate_shown : Keeps alternate_shown
well-alternate_shown b s w =
    let back = sym (none-shown s.shown w.shown.fine.limits.hidden) in
    let here : IsShownSheet (limits b s.alternate) (scrollback_shown s.shown 0) =
    subst (λ g. IsShownSheet (limits b s.alternate) g) back w.shown in
    let clean = sheet-scrollback_shown sound s.shown 0 w.clean in
    cond_both s.alternate (with_shown s (scrollback_shown s.shown 0))
    (record s { shown = allocated s.other; other = scrollback_shown s.shown 0; alternate = true })
    (λ t. IsUnscrolledState b t)
    (λ _. well-shown b s (scrollback_shown s.shown 0) w here clean)
    (λ e. record {
      bounds = w.bounds;
      shown = drawn-allocated (limits b true) s.other (fine-as b (not s.alternate) true s.other (ap not e) w.other);
      clean = sheet-allocated sound s.other w.other_clean;
      other = fine-as b s.alternate false (scrollback_shown s.shown 0) e here.fine;
      other_clean = clean;
      main = λ _. here.some;
      drawn = w.drawn;
    })

pub well-main_shown : Keeps main_shown
well-main_shown b s w =
    cond_both s.alternate (record s { shown = s.other; other = s.shown; alternate = false }) s
    (λ t. IsUnscrolledState b t)
    (λ e. record {
      bounds = w.bounds;
      shown = record { fine = fine-as b (not s.alternate) false s.other (ap not e) w.other; some = w.main e };
      clean = w.other_clean;
      other = fine-as b s.alternate true s.shown e w.shown.fine;
      other_clean = w.clean;
      main = λ t. absurd (false≢true t);
      drawn = w.drawn;
    })
    (λ _. w)

well-alternate_cleared : Keeps alternate_cleared
well-alternate_cleared b s w =
    cond_both s.alternate (with_shown s (cleared s.shown)) (record s { other = cleared s.other })
    (λ t. IsUnscrolledState b t)
    (λ _. well-shown b s (cleared s.shown) w (drawn-cleared _ s.shown w.shown)
    (sheet-cleared sound s.shown w.clean))
    (λ e. record {
      bounds = w.bounds;
      shown = w.shown;
      clean = w.clean;
      other = fine-cleared _ s.other w.other;
      other_clean = sheet-cleared sound s.other w.other_clean;
      main = λ t. absurd (false≢true (sym e ∙ t));
      drawn = w.drawn;
    })

pub well-alternate_entered : Keeps alternate_entered
well-alternate_entered b s w =
    well-alternate_shown b (alternate_cleared (saved s)) (well-alternate_cleared b (saved s) (well-saved b s w))

pub well-alternate_left : Keeps alternate_left
well-alternate_left b s w = well-restored b (main_shown s) (well-main_shown b s w)

-- ---- whole screens

pub well-fresh : (b : Bounds) → AreBounds b → IsUnscrolledState b (fresh_state b.height b.width b.capacity)
well-fresh b a =
    let main = new_grid b.height b.width (Enabled b.capacity) in
    record {
      bounds = a;
      shown = drawn-allocated (limits b false) main
          (new-fine b.height b.width (Enabled b.capacity) a.some_rows a.few_rows a.some_cols a.few_cols a.few);
      clean = sheet-allocated sound main (sheet-new sound b.height b.width (Enabled b.capacity));
      other = new-fine b.height b.width Disabled a.some_rows a.few_rows a.some_cols a.few_cols (omega arith);
      other_clean = sheet-new sound b.height b.width Disabled;
      main = λ e. absurd (false≢true e);
      drawn = record { attrs = default-proper; saved_attrs = default-proper; last = λ c e. absurd (cc) };
    }

sheets-fine : (b : Bounds) (a : Bool) (g h : GridView) → IsFineSheet (limits b a) g → IsFineSheet (limits b (not a)) h
    → IsUnscrolledSheet (limits b false) (cond a h g) × IsUnscrolledSheet (limits b true) (cond a g h)
sheets-fine b true g h p q = (q.limits, p.limits)
sheets-fine b false g h p q = (p.limits, q.limits)

pub main-fine : (b : Bounds) (s : State) → IsUnscrolledState b s → IsUnscrolledSheet (limits b false) (main_sheet s)
main-fine b s w = (sheets-fine b s.alternate s.shown s.other w.shown.fine w.other).0

pub alternate-fine : (b : Bounds) (s : State) → IsUnscrolledState b s
    → IsUnscrolledSheet (limits b true) (alternate_sheet s)
alternate-fine b s w = (sheets-fine b s.alternate s.shown s.other w.shown.fine w.other).1

pub well-made_anew : Keeps made_anew
well-made_anew b s w =
    let m = main-fine b s w in
    let g = main_sheet s in
    let same : fresh_state b.height b.width b.capacity ≡ fresh_state g.height g.width g.kept.capacity =
    ap (λ n. fresh_state n b.width b.capacity) (sym m.height)
    ∙ ap (λ n. fresh_state g.height n b.capacity) (sym m.width)
    ∙ ap (λ n. fresh_state g.height g.width n) (sym m.capacity) in
    subst (λ t. IsUnscrolledState b t) same (well-fresh b w.bounds)

pub well-resized : (b : Bounds) (s : State) (height width : ℕ) → IsUnscrolledState b s → 0 < height → height < 2 ^ 16
    → 0 < width
    → width < 2 ^ 16 → IsUnscrolledState (record b { height = height; width = width }) (resized_to height width s).state
well-resized b s height width w some_rows few_rows some_cols few_cols = record {
  bounds = record {
    some_rows = some_rows;
    few_rows = few_rows;
    some_cols = some_cols;
    few_cols = few_cols;
    few = w.bounds.few;
  };
  shown = record {
    fine = fine-resized _ s.shown height width w.shown.fine some_rows few_rows some_cols few_cols;
    some = some-resized _ s.shown height width w.shown some_rows;
  };
  clean = sheet-resized sound s.shown height width w.clean;
  other = fine-resized _ s.other height width w.other some_rows few_rows some_cols few_cols;
  other_clean = sheet-resized sound s.other height width w.other_clean;
  main = λ e. some-resized _ s.other height width
      (record { fine = w.other; some = w.main e }) some_rows;
  drawn = w.drawn;
}
