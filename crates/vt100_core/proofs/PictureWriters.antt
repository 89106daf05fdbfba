-- A grid's forms are those of its picture.
use Rattle.std.proofs.Common.{◌≡◌, ℕ, zero, suc, ◌-◌, ◌<◌, Bool, false, cond, not, ◌&&◌, nat_lt}
use Rattle.std.proofs.Common.{[], length, min, refl, sym, ap, ◌∙◌, subst, arith, inl, inr}
use Rattle.std.proofs.lemmas.Bool.{cases_lt, lt-ltb}
use mathlib.Core.Path.{fun_ext}
use Rattle.vt100_forms.specs.Attrs.{default_attrs}
use Rattle.vt100_cells.specs.Cell.{CellView, IsCell, default_cell}
use Rattle.vt100_cells.specs.Cells.{cell_at}
use Rattle.vt100_cells.proofs.CellLemmas.{IsCell-empty}
use Rattle.vt100_cells.proofs.ListLemmas.{cell_at_past}
use Rattle.vt100_rows.specs.Row.{RowView}
use Rattle.vt100_rows.specs.Forms.{redraw_job, redraw, difference_job, difference}
use Rattle.terminal_model.specs.Term.{Size, IsShown, blank_shown}
use Rattle.terminal_model.specs.Leads.{Leads}
use Rattle.terminal_model.proofs.FormLemmas.{IsShown-of}
use Rattle.row_drawing.specs.Writer.{Drawn, Writer, ◌>>◌, skip}
use Rattle.row_drawing.specs.RowWriter.{row_redraw, row_difference}
use Rattle.screen_drawing.specs.Cursor as cursor
use Rattle.screen_drawing.specs.Rows.{pen_at, afresh, is_continued, next_row, no_flags, redraws_of, differences_of}
use Rattle.screen_drawing.specs.Screen.{cursor_placed, cleared, grid_redraw, grid_contents_formatted, grid_difference}
use Rattle.screen_drawing.specs.Laws.{with_grid_of}
use Rattle.screen_drawing.proofs.Rows.{in_turn-same}
use Rattle.screen_drawing.proofs.Screens.{grid-redraw_leads, grid-difference_leads}
use Rattle.screen_drawing.proofs.Cursor.{cursor-placed}
use Rattle.vt100_rows.specs.Sheet.{row_at}
use Rattle.vt100_rows.specs.Picture.{lines_of, wraps_of}
use Rattle.vt100_rows.proofs.PictureLemmas.{lines-past}
use Rattle.vt100_core.specs.Grid.{GridView, IsGrid}
use Rattle.vt100_core.specs.Contents.{is_below_wrapped}
use Rattle.vt100_core.specs.Picture.{grid_size, Extras, term_of_grid}
use Rattle.vt100_core.specs.Writers.{drawn_on, line_redraw, lines_redraw, line_difference, lines_difference}
use Rattle.vt100_core.specs.Writers.{redrawn, contents_formatted, differing}
use Rattle.vt100_core.specs.WriterLaws.{IsUnscrolledGrid, picture_of, EachCursorIsOfPicture}
use Rattle.vt100_core.specs.WriterLaws.{EachRedrawIsOfPicture, EachDifferenceIsOfPictures, EachGridIsDrawable}
use Rattle.vt100_core.specs.WriterLaws.{EachRedrawIsDrawn, EachDifferenceIsDrawn, EachCursorIsDrawn}
use Rattle.vt100_core.proofs.ContentsLemmas.{below-next}
use Rattle.vt100_core.proofs.PictureLemmas.{visible_at-drawn, IsTerm-grid}

-- ---- the cursor

pub cursor-of_picture : EachCursorIsOfPicture
unfolding cursor.cursor_position_formatted
cursor-of_picture g x p a = refl

-- ---- one row

no-cells : cell_at [] ≡ (λ k. default_cell)
no-cells = fun_ext (λ k. cell_at_past [] k (omega arith))

below-is : (g : GridView) (i : ℕ) → g.kept.offset ≡ 0 → is_below_wrapped g i ≡ is_continued (wraps_of g.rows) i
below-is g zero e = refl
below-is g (suc i) e = sym (below-next g i) ∙ ap (λ (v : RowView). v.wrapped) (visible_at-drawn g i e)

-- a row of n columns is drawn whole
whole-row : (n cols : ℕ) (f : ℕ → Writer) → 0 < n → cols ≡ n → cond (nat_lt 0 cols) (f (min n (cols - 0))) skip ≡ f n
whole-row n cols f some e =
    let count : min n (cols - 0) ≡ n = omega (arith, e) in
    ap (λ b. cond b (f (min n (cols - 0))) skip) (lt-ltb 0 cols (omega (arith, some, e))) ∙ ap f count

-- row i of a grid that shows no kept row
module _ (g : GridView) (x : Extras) (h : IsUnscrolledGrid g) (i : ℕ) (l : i < g.height) where
  abbrev v : RowView
  v = row_at g.rows i

  abbrev above : Bool
  above = is_continued (wraps_of g.rows) i

  wide : length v.cells ≡ g.width
  wide = (h.grid.sheet.each i (omega (arith, h.grid.sheet.count h.some, l))).wide

  redraw-is : next_row no_flags (line_redraw g) i ≡ next_row no_flags (redraws_of (grid_size g) (picture_of g x)) i
  unfolding next_row
  redraw-is = λ j p.
      ((λ k. redraw (visible_at-drawn g i h.offset k) 0 g.width i (below-is g i h.offset k))
      ∙ whole-row g.width (length v.cells) (row_redraw (redraw_job v 0 i above)) h.grid.some_cols wide
      ∙ (λ k. row_redraw (record (redraw_job v 0 i above) { cols = wide k; old = no-cells k }) g.width)) j (afresh p)

  module _ (old : GridView) (y : Extras) (o : IsUnscrolledGrid old) (e : grid_size old ≡ grid_size g) where
    difference-is : next_row (is_below_wrapped old) (line_difference g old) i
        ≡ next_row (is_continued (wraps_of old.rows))
        (differences_of (grid_size g) (picture_of old y) (picture_of g x)) i
    unfolding next_row
    difference-is =
        let w = row_at old.rows i in
        let height = ap (λ (z : Size). z.rows) e in
        let others = o.grid.sheet.count o.some in
        let other : length w.cells ≡ g.width =
        (o.grid.sheet.each i (omega (arith, others, l, height))).wide ∙ ap (λ (z : Size). z.cols) e in
        λ j p.
        ((λ k. difference (visible_at-drawn g i h.offset k) (visible_at-drawn old i o.offset k) 0 g.width i
        (below-is g i h.offset k) (below-is old i o.offset k && not p.lost))
        ∙ whole-row g.width (min (length v.cells) (length w.cells))
        (row_difference (difference_job v w 0 i above (is_continued (wraps_of old.rows) i && not p.lost)))
        h.grid.some_cols (omega (arith, wide, other))
        ∙ (λ k. row_difference (record (difference_job v w 0 i above
        (is_continued (wraps_of old.rows) i && not p.lost)) { cols = wide k }) g.width)) j (afresh p)

-- ---- grids

pub redrawn-of_picture : EachRedrawIsOfPicture
unfolding grid_redraw cursor_placed cursor.cursor_position_formatted ◌>>◌
redrawn-of_picture g x h =
    let rows = in_turn-same no_flags no_flags (line_redraw g) (redraws_of (grid_size g) (picture_of g x)) g.height
    (redraw-is g x h) in
    let all = ap (lines_redraw g) (h.grid.sheet.count h.some) ∙ rows in
    λ j. (all j >> cursor_placed (grid_size g) (drawn_on g)) (pen_at 0 0 default_attrs)

pub differing-of_pictures : EachDifferenceIsOfPictures
unfolding grid_difference cursor_placed cursor.cursor_position_formatted ◌>>◌
differing-of_pictures g old x y h o e =
    let count = h.grid.sheet.count h.some in
    let others = o.grid.sheet.count o.some in
    let height = ap (λ (z : Size). z.rows) e in
    let both : min (length g.rows) (length old.rows) ≡ g.height = omega (arith, count, others, height) in
    let rows = in_turn-same (is_below_wrapped old) (is_continued (wraps_of old.rows)) (line_difference g old)
    (differences_of (grid_size g) (picture_of old y) (picture_of g x)) g.height
    (λ i l. difference-is g x h i l old y o e) in
    let all = ap (lines_difference g old) both ∙ rows in
    λ j. (all j >> cursor_placed (grid_size g) (drawn_on g)) (pen_at old.row old.col y.attrs)

-- ---- what a terminal makes of them

pub shown-grid : (g : GridView) (x : Extras) → IsUnscrolledGrid g → IsShown (grid_size g) (picture_of g x)
shown-grid g x h = IsShown-of (grid_size g) (term_of_grid g x) (IsTerm-grid g x h.grid)

pub lines-cells : (g : GridView) (r k : ℕ) → IsGrid g → IsCell (lines_of g.rows r k)
lines-cells g r k h =
    elim (cases_lt r (length g.rows)) [
      | inl l ↦ (h.sheet.each r l).row.cells k
      | inr l ↦ subst IsCell (sym (ap (λ (f : ℕ → CellView). f k) (lines-past g.rows r l))) (IsCell-empty default_attrs)
    ]

pub grid-drawable : EachGridIsDrawable
grid-drawable g x h = record {
  shown = shown-grid g x h.shown;
  cells = λ r k. lines-cells g r k h.shown.grid;
  plain = h.plain;
  proper = h.proper;
}

-- nothing besides the grid
abbrev pub plain_extras : Extras
plain_extras = record {
  hidden = false;
  attrs = default_attrs;
  saved_attrs = default_attrs;
  modes = blank_shown.modes;
  style = blank_shown.style;
}

pub contents-is : (g : GridView) → redrawn g ≡ grid_redraw (grid_size g) (drawn_on g)
    → contents_formatted g ≡ grid_contents_formatted (grid_size g) (drawn_on g)
unfolding grid_contents_formatted
contents-is g e = ap cleared e

pub redrawn-leads : EachRedrawIsDrawn
redrawn-leads g from h =
    let z = grid_size g in
    let s = drawn_on g in
    let same : redrawn g ≡ grid_redraw z s = redrawn-of_picture g plain_extras h.shown in
    let lead = grid-redraw_leads z s from (grid-drawable g plain_extras h) in
    subst (λ fs. Leads z fs from (with_grid_of s (redrawn g).pen.attrs from)) (sym (contents-is g same))
    (subst (λ (d : Drawn). Leads z (grid_contents_formatted z s) from (with_grid_of s d.pen.attrs from)) (sym same)
    lead)

pub differing-leads : EachDifferenceIsDrawn
differing-leads g old y h o e proper =
    let z = grid_size g in
    let s = drawn_on g in
    let was = picture_of old y in
    let same : differing g old y.attrs ≡ grid_difference z was s =
    differing-of_pictures g old plain_extras y h.shown o e in
    let start = subst (λ (k : Size). IsShown k was) e (shown-grid old y o) in
    subst (λ (d : Drawn). Leads z d.forms was (with_grid_of s d.pen.attrs was)) (sym same)
    (grid-difference_leads z was s start proper (grid-drawable g plain_extras h))

pub cursor-leads : EachCursorIsDrawn
cursor-leads g from p a h cells flags there attrs proper =
    let z = grid_size g in
    let s = drawn_on g in
    subst (λ b. Leads z (cursor.cursor_position_formatted z s p b) from (record from { row = g.row; col = g.col }))
    attrs (cursor-placed z s from p (grid-drawable g plain_extras h) proper cells flags there)
