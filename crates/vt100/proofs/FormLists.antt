-- A screen's lists are those of what it shows, whose forms, lengths and cells are known.
use Rattle.std.proofs.Common.{◌≡◌, ℕ, suc, ◌+◌, ◌<◌, ◌≤◌, ◌^◌, Bool, false, ◌&&◌, ◌==◌, List, [], ◌∷◌, length, None}
use Rattle.std.proofs.Common.{refl, sym, ap, subst, arith, Contains, nat_lt}
use Rattle.std.specs.List.{AllByRecursion}
use Rattle.std.proofs.lemmas.Bool.{cond_both}
use Rattle.vt100_forms.specs.Attrs.{default_attrs, IsProper, HasByteColors}
use Rattle.vt100_forms.specs.Form.{Form}
use Rattle.vt100_cells.specs.Cell.{CellView, IsCell, default_cell}
use Rattle.vt100_cells.specs.Cells.{cell_at}
use Rattle.vt100_cells.proofs.CellLemmas.{IsCell-empty}
use Rattle.terminal_model.specs.FormText.{AreForms, AreSentForms}
use Rattle.row_drawing.specs.Small.{SmallErase, IsSmallPen}
use Rattle.vt100_rows.specs.Row.{RowView}
use Rattle.vt100_rows.specs.Forms.{formatted, differing}
use Rattle.vt100_rows.specs.Laws.{IsTrueOfSmallForms}
use Rattle.vt100_rows.proofs.SentTexts as rows
use Rattle.vt100_rows.specs.Sheet.{row_at}
use Rattle.screen_drawing.specs.Laws as writers
use Rattle.screen_drawing.proofs.SmallScreens.{lists-sent, lists-forms}
use Rattle.screen_drawing.specs.Local.{IsLocalList}
use Rattle.screen_drawing.proofs.LocalScreens.{contents-local, difference-local}
use Rattle.vt100_core.specs.Grid.{visible, visible_at}
use Rattle.vt100_core.specs.Picture.{grid_size}
use Rattle.vt100_core.proofs.PictureWriters.{lines-cells}
use Rattle.screen_model.specs.State.{State}
use Rattle.screen_model.specs.Shown.{shown_state}
use Rattle.screen_model.specs.Made.{made}
use Rattle.screen_model.proofs.MadeLemmas.{makes-cells}
use Rattle.vt100.specs.Writers.{contents_diff, state_diff, each_formatted, each_diff}
use Rattle.vt100.specs.WriterLaws.{IsUnscrolled, IsPlainlyShown}
use Rattle.vt100.specs.FormLists.{EachScreenIsKnown, EachMadeScreenIsKnown, IsTrueOfLists, EachListIsSent}
use Rattle.vt100.specs.FormLists.{EachListIsOfForms, IsWritten, IsTrueOfRows, EachRowIsSent, EachRowIsOfForms}
use Rattle.vt100.specs.FormLists.{EachScreenIsSmall}
use Rattle.vt100.proofs.ShownLemmas.{cells-are, shown-is, old-shown, redraw-of_shown, difference-of_shown}
use Rattle.vt100.proofs.ShownLemmas.{screen-drawable}
use Rattle.vt100.proofs.RowTexts.{row-is, shown-many, IsReadyRow, ready-row}

-- ---- what is shown

shown-cells : (s : State) → IsUnscrolled s → (r k : ℕ) → IsCell ((shown_state s).cell r k)
shown-cells s h =
    subst (λ (f : ℕ → ℕ → CellView). (r k : ℕ) → IsCell (f r k)) (sym (cells-are s h))
    (λ r k. lines-cells s.shown r k h.state.shown)

pub screen-known : EachScreenIsKnown
screen-known s h clean = record { cells = shown-cells s h; known = clean }

-- what is true of each cell of the rows, and of a blank one, is true of each that is shown
each-cell : (P : CellView → Type 0) (s : State) → P default_cell
    → ((r k : ℕ) → P (cell_at (visible_at s.shown r).cells k))
    → (r k : ℕ) → P ((shown_state s).cell r k)
each-cell P s d h r k =
    cond_both (nat_lt r s.shown.height && nat_lt k s.shown.width) (cell_at (visible_at s.shown r).cells k) default_cell
    P
    (λ _. h r k) (λ _. d)

no-text : (c : ℕ) → Contains {X = ℕ} [] c → ⊥
no-text c h = absurd (omega (arith, h.1))

pub made-known : EachMadeScreenIsKnown
made-known rows cols capacity acts h =
    let s = made rows cols capacity acts in
    record {
      cells = each-cell IsCell s (IsCell-empty default_attrs) (λ r k. (makes-cells rows cols capacity acts h r k).0);
      known = each-cell (λ x. Contains x.text 0xFFFD → ⊥) s (no-text 0xFFFD)
          (λ r k. (makes-cells rows cols capacity acts h r k).1);
    }

pub shown-proper : (s : State) → IsUnscrolled s → (r k : ℕ) → IsProper ((shown_state s).cell r k).attrs
shown-proper s h =
    subst (λ (f : ℕ → ℕ → CellView). (r k : ℕ) → IsProper (f r k).attrs) (sym (cells-are s h)) h.state.proper.drawn

pub small-screen : EachScreenIsSmall
small-screen s h = record {
  shown = shown-is s h;
  cells = shown-cells s h;
  rows = h.state.shown.few_rows;
  cols = h.state.shown.few_cols;
  colors = λ r k. (shown-proper s h r k).colors;
  attrs = h.state.attrs.colors;
}

-- ---- lists

of-shown : (Q : List Form → Type 0) (old new : State) → IsUnscrolled old → IsUnscrolled new
    → grid_size old.shown ≡ grid_size new.shown
    → writers.IsTrueOfLists Q HasByteColors (grid_size new.shown) (shown_state old) (shown_state new)
    → IsTrueOfLists Q old new
of-shown Q old new o h e q =
    let is = redraw-of_shown new h in
    let differs = difference-of_shown old new o h e in
    record {
      state_formatted = subst Q (sym is.state) q.state_formatted;
      contents_formatted = subst Q (sym is.contents) q.contents_formatted;
      state_diff = subst Q (sym differs.state) q.state_diff;
      contents_diff = subst Q (sym differs.contents) q.contents_diff;
      cursor_state_formatted = subst Q (sym is.cursor) q.cursor_state_formatted;
      input_mode_formatted = q.input_mode_formatted;
      input_mode_diff = q.input_mode_diff;
      attributes_formatted = q.attributes_formatted;
    }

pub screen-sent : EachListIsSent
screen-sent old new o h e known =
    of-shown AreSentForms old new o h e
    (lists-sent (grid_size new.shown) (shown_state old) (shown_state new) o.state.attrs.colors (small-screen new h)
    known)

pub screen-forms : EachListIsOfForms
screen-forms old new o h e known plain =
    of-shown AreForms old new o h e
    (lists-forms (grid_size new.shown) (shown_state old) (shown_state new) o.state.attrs.colors (small-screen new h)
    known
    plain)

-- which cells two lists of differences touch
pub differences-local : (old new : State) → IsUnscrolled old → IsUnscrolled new
    → grid_size old.shown ≡ grid_size new.shown → IsPlainlyShown (shown_state new)
    → IsLocalList (grid_size new.shown) (shown_state old) (shown_state new) (contents_diff old new)
    × IsLocalList (grid_size new.shown) (shown_state old) (shown_state new) (state_diff old new)
differences-local old new o h e plain =
    let z = grid_size new.shown in
    let x = shown_state old in
    let y = shown_state new in
    let is = difference-of_shown old new o h e in
    let start = old-shown old new o e in
    let d = screen-drawable new h plain in (
      subst (IsLocalList z x y) (sym is.contents) (contents-local z x y start o.state.attrs d),
      subst (IsLocalList z x y) (sym is.state) (difference-local z x y start o.state.attrs d),
    )

-- ---- rows

abbrev EachIs : (RowView → Type 0) → List RowView → Type 0
EachIs P vs = (j : ℕ) → j < length vs → P (row_at vs j)

each-sent : (Q : List Form → Type 0) (P : RowView → Type 0) → ((v : RowView) → P v → IsTrueOfSmallForms Q v)
    → (start width i : ℕ) (whole above : Bool) (vs : List RowView) → EachIs P vs → i + length vs ≤ 2 ^ 16
    → AllByRecursion (IsWritten Q) (each_formatted start width whole i above vs)
unfolding IsSmallPen SmallErase
each-sent Q P lists start width i whole above [] h l = tt
each-sent Q P lists start width i whole above (v ∷ vs) h l =
    let d = formatted v start width i above None None in (
      (d.forms, (lists v (h 0 (omega arith)) v start width i above false _ (omega (arith, l)) ((tt, tt), tt)).0, refl),
      each-sent Q P lists start width (i + 1) whole (whole && v.wrapped) vs (λ j k. h (suc j) (omega (arith, k)))
          (omega (arith, l)),
    )

each-changed : (Q : List Form → Type 0) (P : RowView → Type 0) → ((v : RowView) → P v → IsTrueOfSmallForms Q v)
    → (start width i : ℕ) (vs es : List RowView) → EachIs P vs → i + length vs ≤ 2 ^ 16
    → AllByRecursion (IsWritten Q) (each_diff start width i vs es)
unfolding IsSmallPen SmallErase
each-changed Q P lists start width i [] es h l = tt
each-changed Q P lists start width i (v ∷ vs) [] h l = tt
each-changed Q P lists start width i (v ∷ vs) (e ∷ es) h l =
    let d = differing v e start width i false false (record { row = i; col = start }) default_attrs in (
      (d.forms, (lists v (h 0 (omega arith)) e start width i false false _ (omega (arith, l)) ((tt, tt), tt)).1, refl),
      each-changed Q P lists start width (i + 1) vs es (λ j k. h (suc j) (omega (arith, k))) (omega (arith, l)),
    )

of-rows : (Q : List Form → Type 0) (P : RowView → Type 0) → ((v : RowView) → P v → IsTrueOfSmallForms Q v)
    → (old new : State) (start width : ℕ) → IsUnscrolled new
    → ((i : ℕ) → i < new.shown.height → P (row_at new.shown.rows i)) → IsTrueOfRows Q old new start width
of-rows Q P lists old new start width h each =
    let vs = visible new.shown in
    let many = shown-many new h in
    let all : EachIs P vs = λ j l. subst P (sym (row-is new h j (omega (arith, l, many))))
    (each j (omega (arith, l, many))) in
    let few : 0 + length vs ≤ 2 ^ 16 = omega (arith, many, h.state.shown.few_rows) in
    record {
      rows_formatted = each-sent Q P lists start width 0 ((start == 0) && (width == new.shown.width)) false vs all few;
      rows_diff = each-changed Q P lists start width 0 vs (visible old.shown) all few;
    }

pub rows-sent : EachRowIsSent
rows-sent old new start width h known =
    of-rows AreSentForms IsReadyRow (λ v r. rows.lists-sent v r.row r.small r.known) old new start width h
    (λ i l. ready-row new h i l (known.known i))

abbrev IsPlainReadyRow : RowView → Type 0
IsPlainReadyRow v = IsReadyRow v × ((k : ℕ) → Contains (cell_at v.cells k).text 0xFE0F → ⊥)

pub rows-forms : EachRowIsOfForms
rows-forms old new start width h known plain =
    of-rows AreForms IsPlainReadyRow (λ v r. rows.lists-forms v r.0.row r.0.small r.0.known r.1) old new start width h
    (λ i l. (
      ready-row new h i l (known.known i),
      subst (λ (f : ℕ → CellView). (k : ℕ) → Contains (f k).text 0xFE0F → ⊥)
          (ap (λ (f : ℕ → ℕ → CellView). f i) (cells-are new h)) (plain i),
    ))
