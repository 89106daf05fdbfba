-- How a row is drawn on a terminal, as forms.
use Rattle.std.specs.Prelude.{ℕ, ◌-◌, Bool, false, nat_lt, min, [], length, Option, None, unwrap_or}
use Rattle.std.specs.Prelude.{if◌then◌else◌}
use Rattle.vt100_forms.specs.declared.attrs.Attrs.{Attrs}
use Rattle.vt100_forms.specs.declared.position.Pos.{Pos}
use Rattle.vt100_forms.specs.Attrs.{default_attrs}
use Rattle.vt100_cells.specs.Cells.{cell_at}
use Rattle.row_drawing.specs.declared.pen.Pen.{Pen}
use Rattle.row_drawing.specs.Writer.{Drawn, Writer, skip}
use Rattle.row_drawing.specs.RowWriter.{RowChange, row_redraw, row_difference}
use Rattle.vt100_rows.specs.Row.{RowView}

-- The row is drawn from column `start` on, as row `row` of a terminal that shows default cells there, and no flag;
-- `above` says whether the row above goes on in this one.
abbrev pub redraw_job : RowView → ℕ → ℕ → Bool → RowChange
redraw_job v start row above = record {
  cols = length v.cells;
  row = row;
  start = start;
  old = cell_at [];
  new = cell_at v.cells;
  wrapped = v.wrapped;
  was_wrapped = false;
  above = above;
  was_above = false;
}

-- `width` columns of it, or as many as the row has; nothing where it ends before `start`
abbrev pub redraw : RowView → ℕ → ℕ → ℕ → Bool → Writer
redraw v start width row above =
    if nat_lt start (length v.cells)
    then row_redraw (redraw_job v start row above) (min width (length v.cells - start))
    else skip

-- Before that the cursor is at `pos` and the terminal draws with `attrs`. Where these aren't given, the attributes
-- are the default ones, and the cursor is at column `start`, or at the end of the row above if that one goes on.
abbrev pub pen_before : RowView → ℕ → ℕ → Bool → Option Pos → Option Attrs → Pen
pen_before v start row above pos attrs = record {
  pos = unwrap_or pos (if above then record { row = row - 1; col = length v.cells }
      else record { row = row; col = start });
  attrs = unwrap_or attrs default_attrs;
  erase = None;
  lost = false;
}

-- what `write_contents_formatted` appends, and the pen after it
abbrev pub formatted : RowView → ℕ → ℕ → ℕ → Bool → Option Pos → Option Attrs → Drawn
formatted v start width row above pos attrs = redraw v start width row above (pen_before v start row above pos attrs)

-- ---- over an earlier row

-- The same, where the terminal shows an earlier row and its flag; `was_above` says whether it has the flag of the row
-- above.
abbrev pub difference_job : RowView → RowView → ℕ → ℕ → Bool → Bool → RowChange
difference_job v earlier start row above was_above = record {
  cols = length v.cells;
  row = row;
  start = start;
  old = cell_at earlier.cells;
  new = cell_at v.cells;
  wrapped = v.wrapped;
  was_wrapped = earlier.wrapped;
  above = above;
  was_above = was_above;
}

-- `width` columns of it, or as many as both rows have, and the row's flag; nothing where one of them ends before
-- `start`
abbrev pub difference : RowView → RowView → ℕ → ℕ → ℕ → Bool → Bool → Writer
difference v earlier start width row above was_above =
    let cols = min (length v.cells) (length earlier.cells) in
    if nat_lt start cols
    then row_difference (difference_job v earlier start row above was_above) (min width (cols - start))
    else skip

-- what `write_contents_diff` appends, and the pen after it
abbrev pub differing : RowView → RowView → ℕ → ℕ → ℕ → Bool → Bool → Pos → Attrs → Drawn
differing v earlier start width row above was_above pos attrs =
    difference v earlier start width row above was_above
    (record { pos = pos; attrs = attrs; erase = None; lost = false })
