-- Copies of what a screen shows, and screens that show the same.
use Rattle.std.proofs.Common.{◌≡◌, ◌∙◌, ◌==◌, Bool, true, false, refl, sym, ap, arith}
use Rattle.std.proofs.lemmas.Bool.Decides.{nat_tests}
use Rattle.std.proofs.lemmas.List.{ext_get_or}
use Rattle.vt100_forms.specs.declared.modes.MouseProtocolMode.{MouseProtocolMode}
use Rattle.vt100_forms.specs.declared.modes.MouseProtocolEncoding.{MouseProtocolEncoding}
use Rattle.vt100_forms.specs.declared.modes.CursorStyle.{CursorStyle}
use Rattle.vt100_forms.specs.Attrs.{attrs_eq}
use Rattle.vt100_forms.specs.Form.{mouse_number, encoding_number, style_number}
use Rattle.vt100_cells.specs.CellEq.{attrs_eq-refl, attrs_eq-true}
use Rattle.vt100_cells.specs.Cell.{bool_eq, default_cell}
use Rattle.terminal_model.specs.Term.{Size, Modes, Shown}
use Rattle.vt100_rows.specs.Sheet.{row_at}
use Rattle.vt100_rows.specs.Picture.{lines_of, wraps_of}
use Rattle.vt100_rows.proofs.SheetLemmas.{rows_equal}
use Rattle.vt100_rows.proofs.CopyLemmas.{same-row}
use Rattle.std.proofs.lemmas.Bool.{false≢true, and_parts, and_from, eq-eqb}
use Rattle.vt100_forms.proofs.AttrsLemmas.{default-proper}
use Rattle.vt100_core.specs.Grid.{GridView, IsGrid, IsAllocated, new_grid}
use Rattle.vt100_core.specs.Copy.{without_kept, visible_as_drawn, AreDrawnAlike}
use Rattle.vt100_core.specs.Picture.{visible_lines, visible_wraps}
use Rattle.vt100_core.specs.declared.scrollback.Scrollback.TheVariants.{Disabled}
use Rattle.vt100_core.proofs.CopyLemmas.{IsGrid-without_kept, IsGrid-new, widths-same}
use Rattle.vt100_core.proofs.VisibleLemmas.{fitted-proper}
use Rattle.vt100_core.proofs.PictureLemmas.{visible_lines-drawn, visible_wraps-drawn}
use Rattle.screen_model.specs.State.{State, IsState, IsProperSheet}
use Rattle.screen_model.specs.Call.{ScreenView}
use Rattle.screen_model.specs.Shown.{shown_state}
use Rattle.screen_model.proofs.ProperSheets.{proper_new}
use Rattle.vt100.specs.WriterLaws.{IsUnscrolled}
use Rattle.vt100.specs.ScreenFields.{IsInside}
use Rattle.vt100.specs.Copies.{with_sheet, shown_alone, same_modes, same_extras, ShowTheSame}
use Rattle.vt100.specs.Copies.{EachCopyShowsTheSame}
use Rattle.vt100.specs.declared.screen.Screen.TheInside.{Inside}

-- ---- a copy is a screen

proper-without_kept : (g : GridView) → IsProperSheet g → IsProperSheet (without_kept g)
proper-without_kept g p = record { drawn = p.drawn; kept = λ r k. default-proper }

pub proper-visible : (g : GridView) → IsGrid g → IsAllocated g → IsProperSheet g → IsProperSheet (visible_as_drawn g)
proper-visible g i some p = record { drawn = fitted-proper g i some p.drawn p.kept; kept = λ r k. default-proper }

-- with another sheet in place of the shown one
pub copied_screen : (s t : Inside) → IsInside s → IsAllocated t.grid → t.grid.kept.keeps ≡ true
    → (s.failed ≡ false → IsProperSheet t.grid)
    → t.other_grid ≡ new_grid t.grid.height t.grid.width Disabled → t.alternate_screen ≡ false → t.attrs ≡ s.attrs
    → t.saved_attrs ≡ s.saved_attrs → t.failed ≡ s.failed → IsInside t
copied_screen s t i drawn keeps proper other main attrs saved failed = record {
  shown = drawn;
  main = λ e. absurd (false≢true (sym main ∙ e));
  height = λ _. rw other refl;
  width = λ _. rw other refl;
  shown_keeps = rw (keeps, main) refl;
  other_keeps = rw (other, main) refl;
  attrs = rw attrs i.attrs;
  saved_attrs = rw saved i.saved_attrs;
  proper = λ live. proper (sym failed ∙ live);
  other_proper = λ live. rw other (proper_new t.grid.height t.grid.width Disabled);
}

pub copied-parts : (v : ScreenView) (g h : GridView) → h ≡ new_grid g.height g.width Disabled
    → record v { state = record (v.state) { shown = g; other = h; alternate = false } }
    ≡ record v { state = with_sheet v.state g }
copied-parts v g h f = λ j. record v { state = record (v.state) { shown = g; other = f j; alternate = false } }

-- the sheets that copies draw on
pub drawn-proper : (s : Inside) (g : GridView) → IsInside s → g ≡ without_kept s.grid → s.failed ≡ false
    → IsProperSheet g
drawn-proper s g i e live = rw e (proper-without_kept s.grid (i.proper live))

pub visible-proper : (s : Inside) (g : GridView) → IsInside s → IsGrid s.grid → g ≡ visible_as_drawn s.grid
    → s.failed ≡ false → IsProperSheet g
visible-proper s g i grid e live = rw e (proper-visible s.grid grid i.shown (i.proper live))

-- ---- a copy shows the same

alone-state : (s : State) → IsState s → IsState (shown_alone s)
alone-state s i = record {
  shown = IsGrid-without_kept s.shown i.shown i.drawn;
  other = IsGrid-new s.shown i.shown;
  drawn = i.drawn;
  main_drawn = i.drawn;
  height = refl;
  width = refl;
  main_keeps = refl;
  alternate_keeps = refl;
  attrs = i.attrs;
  saved_attrs = i.saved_attrs;
  proper = proper-without_kept s.shown i.proper;
  other_proper = proper_new s.shown.height s.shown.width Disabled;
}

alone-same : (s : State) → IsUnscrolled s → shown_state (shown_alone s) ≡ shown_state s
alone-same s u =
    let g = s.shown in
    let i = IsGrid-without_kept g u.state.shown u.state.drawn in
    let cells = visible_lines-drawn (without_kept g) i u.state.drawn refl
    ∙ sym (visible_lines-drawn g u.state.shown u.state.drawn u.offset) in
    let wraps = visible_wraps-drawn (without_kept g) i u.state.drawn refl
    ∙ sym (visible_wraps-drawn g u.state.shown u.state.drawn u.offset) in
    λ j. record (shown_state s) { cell = cells j; wrapped = wraps j }

pub copies-same : EachCopyShowsTheSame
copies-same s u = record {
  unscrolled = record { state = alone-state s u.state; offset = refl };
  same = record { size = refl; shown = alone-same s u };
}

-- ---- two screens that show the same

same-bool : (a b : Bool) → bool_eq a b ≡ true → a ≡ b
same-bool a b h = grind arith

same-mouse : (m n : MouseProtocolMode) → (mouse_number m == mouse_number n) ≡ true → m ≡ n
same-mouse m n h = grind (arith, nat_tests)

same-encoding : (m n : MouseProtocolEncoding) → (encoding_number m == encoding_number n) ≡ true → m ≡ n
same-encoding m n h = grind (arith, nat_tests)

same-style : (m n : CursorStyle) → (style_number m == style_number n) ≡ true → m ≡ n
same-style m n h = grind (arith, nat_tests)

pub modes-true : (m n : Modes) → same_modes m n ≡ true → m ≡ n
modes-true m n h =
    let keypad = same-bool m.keypad n.keypad (grind arith) in
    let keys = same-bool m.cursor_keys n.cursor_keys (grind arith) in
    let paste = same-bool m.paste n.paste (grind arith) in
    let mice = same-mouse m.mouse n.mouse (grind arith) in
    let coding = same-encoding m.encoding n.encoding (grind arith) in
    λ i. record { keypad = keypad i; cursor_keys = keys i; paste = paste i; mouse = mice i; encoding = coding i }

modes-refl : (m : Modes) → same_modes m m ≡ true
modes-refl m = grind (arith, nat_tests)

pub modes-same : (m n : Modes) → m ≡ n → same_modes m n ≡ true
modes-same m n e = ap (same_modes m) (sym e) ∙ modes-refl m

-- what has been compared besides the sheets
pub record HaveSameExtras (s t : State) : Type 0 where
  pub hidden : s.hidden ≡ t.hidden
  pub style : s.style ≡ t.style
  pub modes : s.modes ≡ t.modes
  pub attrs : s.attrs ≡ t.attrs

pub extras-true : (s t : State) → same_extras s t ≡ true → HaveSameExtras s t
extras-true s t h =
    let a = and_parts (bool_eq s.hidden t.hidden) _ h in
    let b = and_parts (style_number s.style == style_number t.style) _ a.1 in
    let c = and_parts (same_modes s.modes t.modes) _ b.1 in
    record {
      hidden = same-bool s.hidden t.hidden a.0;
      style = same-style s.style t.style b.0;
      modes = modes-true s.modes t.modes c.0;
      attrs = attrs_eq-true s.attrs t.attrs c.1;
    }

bool-refl : (b : Bool) → bool_eq b b ≡ true
bool-refl b = grind arith

pub extras-same : (s t : State) → ShowTheSame s t → same_extras s t ≡ true
extras-same s t e =
    let hidden = ap (λ (x : Shown). bool_eq s.hidden x.hidden) (sym e.shown) ∙ bool-refl s.hidden in
    let style = eq-eqb (style_number s.style) (style_number t.style) (ap (λ (x : Shown). style_number x.style)
    e.shown) in
    let modes = modes-same s.modes t.modes (ap (λ (x : Shown). x.modes) e.shown) in
    let attrs = ap (λ (x : Shown). attrs_eq s.attrs x.attrs) (sym e.shown) ∙ attrs_eq-refl s.attrs in
    and_from (bool_eq s.hidden t.hidden) _ hidden
    (and_from (style_number s.style == style_number t.style) _ style
    (and_from (same_modes s.modes t.modes) (attrs_eq s.attrs t.attrs) modes attrs))

lines-drawn : (s : State) → IsUnscrolled s → visible_lines s.shown ≡ lines_of s.shown.rows
lines-drawn s u = visible_lines-drawn s.shown u.state.shown u.state.drawn u.offset

wraps-drawn : (s : State) → IsUnscrolled s → visible_wraps s.shown ≡ wraps_of s.shown.rows
wraps-drawn s u = visible_wraps-drawn s.shown u.state.shown u.state.drawn u.offset

-- what has been compared is all that is shown
pub alike-same : (s t : State) → IsUnscrolled s → IsUnscrolled t → HaveSameExtras s t → AreDrawnAlike s.shown t.shown
    → ShowTheSame s t
alike-same s t u w x a =
    let cells = lines-drawn s u ∙ ap lines_of a.rows ∙ sym (lines-drawn t w) in
    let wraps = wraps-drawn s u ∙ ap wraps_of a.rows ∙ sym (wraps-drawn t w) in
    record {
      size = λ j. record { rows = a.height j; cols = a.width j };
      shown = λ j. record {
        cell = cells j;
        wrapped = wraps j;
        row = a.row j;
        col = a.col j;
        hidden = x.hidden j;
        attrs = x.attrs j;
        modes = x.modes j;
        style = x.style j;
      };
    }

-- where the same is shown, the rows are the same
pub same-alike : (s t : State) → IsUnscrolled s → IsUnscrolled t → ShowTheSame s t → AreDrawnAlike s.shown t.shown
same-alike s t u w e =
    let tall = ap (λ (z : Size). z.rows) e.size in
    let wide = ap (λ (z : Size). z.cols) e.size in
    let lines = sym (lines-drawn s u) ∙ ap (λ (x : Shown). x.cell) e.shown ∙ lines-drawn t w in
    let wraps = sym (wraps-drawn s u) ∙ ap (λ (x : Shown). x.wrapped) e.shown ∙ wraps-drawn t w in
    let widths = widths-same s.shown t.shown u.state.shown w.state.shown u.state.drawn w.state.drawn tall wide in
    record {
      height = tall;
      width = wide;
      row = ap (λ (x : Shown). x.row) e.shown;
      col = ap (λ (x : Shown). x.col) e.shown;
      rows = rows_equal s.shown.rows t.shown.rows widths.count
          (λ r l. same-row (row_at s.shown.rows r) (row_at t.shown.rows r)
          (ext_get_or default_cell (row_at s.shown.rows r).cells (row_at t.shown.rows r).cells (widths.widths r l)
          (λ k _. ap (λ f. f r k) lines)) (ap (λ f. f r) wraps));
    }
