-- The texts of a screen's rows, one by one, and what a terminal makes of them.
use Rattle.std.proofs.Common.{◌≡◌, ◌∙◌, ℕ, zero, suc, ◌+◌, ◌<◌, ◌^◌, ◌==◌, Bool, false, ◌&&◌, List, [], ◌∷◌, length}
use Rattle.std.proofs.Common.{get_or, Contains, None, refl, sym, ap, subst, arith}
use Rattle.std.proofs.lemmas.Bool.{and_right}
use Rattle.vt100_forms.specs.Attrs.{default_attrs}
use Rattle.vt100_forms.specs.Form.{bytes_of}
use Rattle.vt100_forms.specs.declared.position.Pos.{Pos}
use Rattle.vt100_cells.specs.Cell.{CellView}
use Rattle.vt100_cells.specs.Cells.{cell_at}
use Rattle.terminal_model.specs.Term.{Size, Term}
use Rattle.terminal_model.specs.Apply.{run}
use Rattle.terminal_model.specs.FormText.{AreForms}
use Rattle.row_drawing.specs.Writer.{Drawn}
use Rattle.vt100_rows.specs.Row.{RowView, IsRow}
use Rattle.vt100_rows.specs.Forms.{formatted, differing}
use Rattle.vt100_rows.specs.Laws.{IsPlainRow, IsKnownRow, IsSmallRow, IsRowDrawn, IsTrueOfSmallForms, row_screen}
use Rattle.row_drawing.specs.Small.{SmallErase, IsSmallPen}
use Rattle.vt100_rows.proofs.DrawnRows.{row-drawn, difference-drawn}
use Rattle.vt100_rows.proofs.SentTexts.{lists-forms}
use Rattle.vt100_rows.specs.Sheet.{row_at, IsRowOf}
use Rattle.vt100_rows.proofs.SheetLemmas.{row_at-by_position, length-rows_by_position}
use Rattle.screen_drawing.specs.Rows.{is_continued}
use Rattle.vt100_core.specs.Grid.{GridView, IsGrid, IsAllocated, visible, visible_at}
use Rattle.vt100_core.specs.Picture.{grid_size}
use Rattle.vt100_core.proofs.PictureLemmas.{visible_at-drawn, visible_wraps-drawn}
use Rattle.screen_model.specs.State.{State}
use Rattle.screen_model.specs.Shown.{shown_state}
use Rattle.vt100.specs.Writers.{each_formatted, each_diff, rows_formatted, rows_diff}
use Rattle.vt100.specs.WriterLaws.{IsUnscrolled, IsPlainLine, IsKnownLine, DrawsRow, text_at, EachRowTextLeads}
use Rattle.vt100.specs.WriterLaws.{EachRowDifferenceLeads}
use Rattle.vt100.proofs.ShownLemmas.{cells-are}

-- ---- the text of each row

-- whether the row above that at j goes on in it, for one who goes from row to row
abbrev before : Bool → Bool → List RowView → ℕ → Bool
before whole above [] j = false
before whole above (v ∷ vs) zero = above
before whole above (v ∷ vs) (suc j) = before whole (whole && v.wrapped) vs j

before-first : (whole above : Bool) (vs : List RowView) → 0 < length vs → before whole above vs zero ≡ above
before-first whole above [] h = absurd (omega (arith, h))
before-first whole above (v ∷ vs) h = refl

before-later : (whole above : Bool) (vs : List RowView) (j : ℕ) → suc j < length vs
    → before whole above vs (suc j) ≡ (whole && (row_at vs j).wrapped)
before-later whole above [] j h = absurd (omega (arith, h))
before-later whole above (v ∷ []) j h = absurd (omega (arith, h))
before-later whole above (v ∷ w ∷ vs) zero h = refl
before-later whole above (v ∷ w ∷ vs) (suc j) h =
    before-later whole (whole && v.wrapped) (w ∷ vs) j (omega (arith, h))

abbrev formatted_text : RowView → ℕ → ℕ → Bool → List ℕ
formatted_text v width i above = bytes_of (formatted v 0 width i above None None).forms

text-formatted : (width i j : ℕ) (whole above : Bool) (vs : List RowView) → j < length vs
    → get_or (each_formatted 0 width whole i above vs) j []
    ≡ formatted_text (row_at vs j) width (i + j) (before whole above vs j)
text-formatted width i j whole above [] h = absurd (omega (arith, h))
text-formatted width i zero whole above (v ∷ vs) h =
    let e : i ≡ i + 0 = omega arith in
    ap (λ n. formatted_text v width n above) e
text-formatted width i (suc j) whole above (v ∷ vs) h =
    let e : i + 1 + j ≡ i + suc j = omega arith in
    text-formatted width (i + 1) j whole (whole && v.wrapped) vs (omega (arith, h))
    ∙ ap (λ n. formatted_text (row_at vs j) width n (before whole (whole && v.wrapped) vs j)) e

length-formatted : (width i : ℕ) (whole above : Bool) (vs : List RowView)
    → length (each_formatted 0 width whole i above vs) ≡ length vs
length-formatted width i whole above [] = refl
length-formatted width i whole above (v ∷ vs) = ap suc (length-formatted width (i + 1) whole (whole && v.wrapped) vs)

abbrev differing_text : RowView → RowView → ℕ → ℕ → List ℕ
differing_text v e width i =
    bytes_of (differing v e 0 width i false false (record { row = i; col = 0 }) default_attrs).forms

text-differing : (width i j : ℕ) (vs es : List RowView) → j < length vs → j < length es
    → get_or (each_diff 0 width i vs es) j [] ≡ differing_text (row_at vs j) (row_at es j) width (i + j)
text-differing width i j [] es h l = absurd (omega (arith, h))
text-differing width i j (v ∷ vs) [] h l = absurd (omega (arith, l))
text-differing width i zero (v ∷ vs) (e ∷ es) h l =
    let same : i ≡ i + 0 = omega arith in
    ap (λ n. differing_text v e width n) same
text-differing width i (suc j) (v ∷ vs) (e ∷ es) h l =
    let same : i + 1 + j ≡ i + suc j = omega arith in
    text-differing width (i + 1) j vs es (omega (arith, h)) (omega (arith, l))
    ∙ ap (λ n. differing_text (row_at vs j) (row_at es j) width n) same

length-differing : (width i : ℕ) (vs es : List RowView) → length vs ≡ length es
    → length (each_diff 0 width i vs es) ≡ length vs
length-differing width i [] es e = refl
length-differing width i (v ∷ vs) [] e = absurd (omega (arith, e))
length-differing width i (v ∷ vs) (x ∷ es) e = ap suc (length-differing width (i + 1) vs es (omega (arith, e)))

-- ---- the rows of a screen that shows no kept row

many : (s : State) → IsUnscrolled s → length s.shown.rows ≡ s.shown.height
many s h = h.state.shown.sheet.count h.state.drawn

pub shown-many : (s : State) → IsUnscrolled s → length (visible s.shown) ≡ s.shown.height
shown-many s h = length-rows_by_position (length s.shown.rows) (visible_at s.shown) ∙ many s h

pub few_visible : (g : GridView) (rows : List RowView) → IsGrid g → IsAllocated g → rows ≡ visible g
    → length rows < 2 ^ 16
few_visible g rows h some e =
    let n = ap (λ (vs : List RowView). length vs) e ∙ length-rows_by_position (length g.rows) (visible_at g) in
    omega (arith, n, h.sheet.count some, h.few_rows)

pub row-is : (s : State) → IsUnscrolled s → (i : ℕ) → i < s.shown.height
    → row_at (visible s.shown) i ≡ row_at s.shown.rows i
row-is s h i l =
    row_at-by_position (length s.shown.rows) (visible_at s.shown) i (omega (arith, l, many s h))
    ∙ visible_at-drawn s.shown i h.offset

wraps-are : (s : State) → IsUnscrolled s → (i : ℕ)
    → (shown_state s).wrapped i ≡ (row_at s.shown.rows i).wrapped
wraps-are s h i = ap (λ (f : ℕ → Bool). f i) (visible_wraps-drawn s.shown h.state.shown h.state.drawn h.offset)

pub row-of : (s : State) → IsUnscrolled s → (i : ℕ) → i < s.shown.height → IsRowOf s.shown.width (row_at s.shown.rows i)
row-of s h i l = h.state.shown.sheet.each i (omega (arith, l, many s h))

not-before : (s : State) → IsUnscrolled s → (whole : Bool) (i : ℕ) → i < s.shown.height
    → is_continued (shown_state s).wrapped i ≡ false → before whole false (visible s.shown) i ≡ false
not-before s h whole zero l c = before-first whole false (visible s.shown) (omega (arith, l, shown-many s h))
not-before s h whole (suc k) l c =
    let k_in : k < s.shown.height = omega (arith, l) in
    before-later whole false (visible s.shown) k (omega (arith, l, shown-many s h))
    ∙ and_right whole (row_at (visible s.shown) k).wrapped
    (ap (λ (v : RowView). v.wrapped) (row-is s h k k_in) ∙ sym (wraps-are s h k) ∙ c)

cells-of : (s : State) → IsUnscrolled s → (i : ℕ) → (shown_state s).cell i ≡ cell_at (row_at s.shown.rows i).cells
cells-of s h i = ap (λ (f : ℕ → ℕ → CellView). f i) (cells-are s h)

plain-row : (s : State) → IsUnscrolled s → (i : ℕ)
    → IsPlainLine ((shown_state s).cell i) → IsPlainRow (row_at s.shown.rows i)
plain-row s h i p = record {
  plain = λ k. subst (λ (f : ℕ → CellView). Contains (f k).text 0xFE0F → ⊥) (cells-of s h i) (p k);
  proper = h.state.proper.drawn i;
}

-- a row of which the forms are known
pub record IsReadyRow (v : RowView) : Type 0 where
  pub row : IsRow v
  pub small : IsSmallRow v
  pub known : IsKnownRow v

pub ready-row : (s : State) → IsUnscrolled s → (i : ℕ) → i < s.shown.height → IsKnownLine ((shown_state s).cell i)
    → IsReadyRow (row_at s.shown.rows i)
ready-row s h i l known =
    let r = row-of s h i l in
    record {
      row = r.row;
      small = record {
        cols = omega (arith, r.wide, h.state.shown.few_cols);
        colors = λ k. (h.state.proper.drawn i k).colors;
      };
      known = subst (λ (f : ℕ → CellView). (k : ℕ) → Contains (f k).text 0xFFFD → ⊥) (cells-of s h i) known;
    }

-- ---- what a terminal makes of them

text-is : (s : State) → IsUnscrolled s → (width i : ℕ) → i < s.shown.height
    → is_continued (shown_state s).wrapped i ≡ false
    → text_at (rows_formatted s.shown 0 width) i ≡ formatted_text (row_at s.shown.rows i) width i false
text-is s h width i l c =
    let whole = (0 == 0) && (width == s.shown.width) in
    let b = before whole false (visible s.shown) i in
    let start : 0 + i ≡ i = omega arith in
    text-formatted width 0 i whole false (visible s.shown) (omega (arith, l, shown-many s h))
    ∙ ap (λ v. formatted_text v width (0 + i) b) (row-is s h i l)
    ∙ ap (λ n. formatted_text (row_at s.shown.rows i) width n b) start
    ∙ ap (λ x. formatted_text (row_at s.shown.rows i) width i x) (not-before s h whole i l c)

-- forms that draw the row on a terminal as wide as it is
draws-row : (s : State) (h : IsUnscrolled s) (i : ℕ) (t : Term) (text : List ℕ) (d : Drawn) → i < s.shown.height
    → text ≡ bytes_of d.forms → (IsTrueOfSmallForms AreForms (row_at s.shown.rows i) → AreForms d.forms)
    → IsPlainLine ((shown_state s).cell i) → IsRowDrawn i (cell_at (row_at s.shown.rows i).cells) d.pen t
    (run (row_screen s.shown.height (row_at s.shown.rows i)) d.forms t)
    → DrawsRow (grid_size s.shown) text ((shown_state s).cell i) i t
draws-row s h i t text d l written forms plain drawn =
    let v = row_at s.shown.rows i in
    let size : row_screen s.shown.height v ≡ grid_size s.shown =
    λ j. record { rows = s.shown.height; cols = (row-of s h i l).wide j } in
    record {
      forms = d.forms;
      written = written;
      are_forms = λ known.
          let y = ready-row s h i l known in
          forms (lists-forms v y.row y.small y.known (plain-row s h i plain).plain);
      pen = d.pen;
      drawn = subst (λ (z : Size). IsRowDrawn i ((shown_state s).cell i) d.pen t (run z d.forms t)) size
          (rw (cells-of s h i) drawn);
    }

pub row-texts_lead : EachRowTextLeads
unfolding IsSmallPen SmallErase
row-texts_lead s width h wide = record {
  count = length-formatted width 0 ((0 == 0) && (width == s.shown.width)) false (visible s.shown) ∙ shown-many s h;
  each = λ i t l c plain at.
      let v = row_at s.shown.rows i in
      let r = row-of s h i l in
      draws-row s h i t _ (formatted v 0 width i false None None) l (text-is s h width i l c)
      (λ lists. (lists v 0 width i false false _ (omega (arith, l, h.state.shown.few_rows)) ((tt, tt), tt)).0) plain
      (row-drawn s.shown.height t v i width None None r.row (plain-row s h i plain) l
      (omega (arith, r.wide, h.state.shown.some_cols)) (omega (arith, r.wide, wide)) at);
}

difference-is : (old new : State) → IsUnscrolled old → IsUnscrolled new → old.shown.height ≡ new.shown.height
    → (width i : ℕ) → i < new.shown.height
    → text_at (rows_diff old.shown new.shown 0 width) i
    ≡ differing_text (row_at new.shown.rows i) (row_at old.shown.rows i) width i
difference-is old new o h e width i l =
    let there : i < old.shown.height = omega (arith, l, e) in
    let start : 0 + i ≡ i = omega arith in
    text-differing width 0 i (visible new.shown) (visible old.shown) (omega (arith, l, shown-many new h))
    (omega (arith, there, shown-many old o))
    ∙ ap (λ v. differing_text v (row_at (visible old.shown) i) width (0 + i)) (row-is new h i l)
    ∙ ap (λ v. differing_text (row_at new.shown.rows i) v width (0 + i)) (row-is old o i there)
    ∙ ap (λ n. differing_text (row_at new.shown.rows i) (row_at old.shown.rows i) width n) start

pub row-differences_lead : EachRowDifferenceLeads
unfolding IsSmallPen SmallErase
row-differences_lead old new width o h same wide =
    let high : old.shown.height ≡ new.shown.height = ap (λ (z : Size). z.rows) same in
    let broad : old.shown.width ≡ new.shown.width = ap (λ (z : Size). z.cols) same in
    record {
      count = length-differing width 0 (visible new.shown) (visible old.shown)
          (shown-many new h ∙ sym high ∙ sym (shown-many old o)) ∙ shown-many new h;
      each = λ i t l plain at.
          let v = row_at new.shown.rows i in
          let x = row_at old.shown.rows i in
          let from : Pos = record { row = i; col = 0 } in
          let r = row-of new h i l in
          let q = row-of old o i (omega (arith, l, high)) in
          draws-row new h i t _ (differing v x 0 width i false false from default_attrs) l
          (difference-is old new o h high width i l)
          (λ lists. (lists x 0 width i false false _ (omega (arith, l, h.state.shown.few_rows)) ((tt, tt), tt)).1) plain
          (difference-drawn new.shown.height t v x i width false from default_attrs r.row (plain-row new h i plain)
          q.row
          (q.wide ∙ broad ∙ sym r.wide) l (omega (arith, r.wide, h.state.shown.some_cols))
          (omega (arith, r.wide, wide)) (record {
            cells = λ k. at.cells k ∙ ap (λ (f : ℕ → CellView). f k) (cells-of old o i);
            wrapped = at.wrapped ∙ wraps-are old o i;
            row_is = at.row_is;
            col_is = at.col_is;
            attrs_are = at.attrs_are;
            reported_pos = refl;
            reported_attrs = refl;
          }));
    }
