-- How long the lists of a grid are, whichever rows it shows.
use Rattle.std.proofs.Common.{ℕ, ◌+◌, ◌-◌, ◌*◌, ◌<◌, ◌≤◌, Bool, not, ◌&&◌, cond, nat_lt, [], ◌∷◌, length, min, refl}
use Rattle.std.proofs.Common.{arith}
use Rattle.std.proofs.lemmas.Bool.{cond_both, ltb-true}
use Rattle.std.proofs.lemmas.Nat.{mul-le}
use Rattle.vt100_forms.specs.declared.attrs.Attrs.{Attrs}
use Rattle.vt100_forms.specs.Attrs.{HasByteColors, default_attrs}
use Rattle.vt100_forms.specs.Form.{ClearScreen, ClearAttrs}
use Rattle.row_drawing.specs.Small.{SmallErase, IsSmallPen}
use Rattle.row_drawing.specs.Writer.{Writer, ◌>>◌, skip}
use Rattle.row_drawing.specs.RowWriter.{row_redraw, row_difference}
use Rattle.terminal_model.proofs.FormLemmas.{IsShown-of}
use Rattle.screen_drawing.specs.Rows.{pen_at, afresh, RowWriters, next_row, in_turn, no_flags}
use Rattle.screen_drawing.specs.Screen.{cursor_placed}
use Rattle.screen_drawing.specs.Length.{IsSmallScreen}
use Rattle.screen_drawing.proofs.Lists.{Rules, then, rows, placed}
use Rattle.screen_drawing.proofs.Costs.{IsSmallList, small-measure, Costs, costs-more, costs-skip, IsRowJob}
use Rattle.screen_drawing.proofs.Costs.{costs-row_redraw, costs-row_difference, form-small}
use Rattle.screen_drawing.proofs.Lengths.{le-times}
use Rattle.screen_drawing.proofs.SmallScreens.{small-rules}
use Rattle.vt100_rows.specs.Row.{RowView}
use Rattle.vt100_rows.specs.Forms.{redraw_job, difference_job}
use Rattle.vt100_core.specs.Grid.{GridView, IsGrid, visible_at}
use Rattle.vt100_core.specs.Contents.{is_below_wrapped}
use Rattle.vt100_core.specs.Picture.{grid_size, term_of_grid}
use Rattle.vt100_core.specs.Writers.{drawn_on, line_redraw, line_difference, redrawn, contents_formatted, differing}
use Rattle.vt100_core.specs.FormLists.{HasByteCells, HasByteVisibleCells, AreShort, EachListIsShort}
use Rattle.vt100_core.proofs.ShowLemmas.{visible-row}
use Rattle.vt100_core.proofs.PictureLemmas.{few-rows, IsTerm-grid}
use Rattle.vt100_core.proofs.PictureWriters.{plain_extras, lines-cells}

pub small-grid : (g : GridView) → IsGrid g → HasByteCells g → IsSmallScreen (grid_size g) (drawn_on g)
small-grid g h colors = record {
  shown = IsShown-of (grid_size g) (term_of_grid g plain_extras) (IsTerm-grid g plain_extras h);
  cells = λ r k. lines-cells g r k h;
  rows = h.few_rows;
  cols = h.few_cols;
  colors = colors;
  attrs = (tt, tt);
}

-- ---- the rows that are shown

-- a part of a row, where there is one
costs-part : (width cols : ℕ) (f : ℕ → Writer) → ((n : ℕ) → 0 < n → n ≤ cols → Costs (f n) (428 * n)) → 0 < width
    → Costs (cond (nat_lt 0 cols) (f (min width (cols - 0))) skip) (428 * width)
costs-part width cols f h some =
    cond_both (nat_lt 0 cols) (f (min width (cols - 0))) skip (λ w. Costs w (428 * width))
    (λ e. let l = ltb-true 0 cols e in
    costs-more (h (min width (cols - 0)) (omega (arith, l, some)) (omega arith)) (omega arith))
    (λ _. costs-skip)

module _ (g : GridView) (h : IsGrid g) (colors : HasByteCells g) (shown : HasByteVisibleCells g) where
  redraw-row_change : (i : ℕ) (above : Bool) → i < g.height → IsRowJob (redraw_job (visible_at g i) 0 i above)
  redraw-row_change i above l =
      let v = visible-row g i h in
      record {
        start = refl;
        cells = v.cells;
        small = record { cols = v.narrow; row = omega (arith, l, h.few_rows); colors = shown i };
      }

  redraws : (i : ℕ) → i < g.height → Costs (next_row no_flags (line_redraw g) i) (428 * g.width)
  unfolding next_row IsSmallPen SmallErase
  redraws i l p k =
      let v = visible_at g i in
      let above = is_below_wrapped g i in
      costs-part g.width (length v.cells) (row_redraw (redraw_job v 0 i above))
      (costs-row_redraw _ (redraw-row_change i above l)) h.some_cols (afresh p) k

  difference-row_change : (old : RowView) (i : ℕ) (above was_above : Bool) → i < g.height
      → IsRowJob (difference_job (visible_at g i) old 0 i above was_above)
  difference-row_change old i above was_above l =
      let v = visible-row g i h in
      record {
        start = refl;
        cells = v.cells;
        small = record { cols = v.narrow; row = omega (arith, l, h.few_rows); colors = shown i };
      }

  differences : (old : GridView) (i : ℕ) → i < g.height
      → Costs (next_row (is_below_wrapped old) (line_difference g old) i) (428 * g.width)
  unfolding next_row IsSmallPen SmallErase
  differences old i l p k =
      let v = visible_at g i in
      let earlier = visible_at old i in
      let above = is_below_wrapped g i in
      let was_above = is_below_wrapped old i && not p.lost in
      costs-part g.width (min (length v.cells) (length earlier.cells))
      (row_difference (difference_job v earlier 0 i above was_above))
      (λ n some m. costs-row_difference _ (difference-row_change earlier i above was_above l) n some (omega (arith, m)))
      h.some_cols (afresh p) k

  -- ---- the grid

  rules : Rules IsSmallList HasByteColors IsSmallPen (grid_size g) (drawn_on g)
  rules = small-rules (grid_size g) (drawn_on g) (small-grid g h colors)

  all : (had : ℕ → Bool) (rs : RowWriters) → ((i : ℕ) → i < g.height → Costs (next_row had rs i) (428 * g.width))
      → (n : ℕ) → n ≤ g.height
      → Costs (in_turn had rs n >> cursor_placed (grid_size g) (drawn_on g))
      (428 * (g.height * g.width) + (131 + g.row))
  all had rs each n l =
      then IsSmallList small-measure IsSmallPen
      (rows IsSmallList small-measure HasByteColors IsSmallPen (grid_size g) (drawn_on g) rules had rs each n l)
      (placed IsSmallList small-measure HasByteColors IsSmallPen (grid_size g) (drawn_on g) rules)
      (omega (arith, mul-le n g.width g.height g.width l (omega arith)))

  -- what is drawn so is short, also after two more forms
  few : (n : ℕ) → n ≤ 428 * (g.height * g.width) + (131 + g.row) + 9 → n ≤ 1024 * (g.height * g.width) + 256
  few n l = omega (arith, l, le-times g.height g.width h.some_cols, h.cursor_row)

  redrawn-small : IsSmallList (428 * (g.height * g.width) + (131 + g.row)) (redrawn g).forms
  unfolding IsSmallPen SmallErase
  redrawn-small =
      let pen = pen_at 0 0 default_attrs in
      (all no_flags (line_redraw g) redraws (length g.rows) (few-rows g h) pen ((tt, tt), tt)).forms

  contents-small : IsSmallList (428 * (g.height * g.width) + (131 + g.row) + 9) (contents_formatted g)
  contents-small =
      small-measure.join (ClearAttrs ∷ []) (ClearScreen ∷ (redrawn g).forms) 3
      (6 + (428 * (g.height * g.width) + (131 + g.row))) _ (form-small ClearAttrs 3 tt (omega arith))
      (small-measure.join (ClearScreen ∷ []) (redrawn g).forms 6 (428 * (g.height * g.width) + (131 + g.row)) _
      (form-small ClearScreen 6 tt (omega arith)) redrawn-small (omega arith))
      (omega arith)

  differing-small : (old : GridView) (a : Attrs) → HasByteColors a
      → IsSmallList (428 * (g.height * g.width) + (131 + g.row)) (differing g old a).forms
  unfolding IsSmallPen SmallErase
  differing-small old a k =
      (all (is_below_wrapped old) (line_difference g old) (differences old) (min (length g.rows) (length old.rows))
      (omega (arith, few-rows g h)) (pen_at old.row old.col a) (k, tt)).forms

  pub lists-short : AreShort g
  lists-short = record {
    contents = few _ contents-small.1;
    difference = λ old a k. few _ (omega (arith, (differing-small old a k).1));
  }

pub grid-short : EachListIsShort
grid-short g h colors shown = lists-short g h colors shown
