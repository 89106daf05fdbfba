-- Another size of the screen, in steps, each by positions.
use Rattle.std.specs.Prelude.{◌≡◌, ◌⊎◌, ℕ, ◌+◌, ◌-◌, ◌<◌, ◌==◌, ◌&&◌, nat_lt, min, List, [], ◌++◌, length, take, drop}
use Rattle.std.specs.Prelude.{map}
use Rattle.std.specs.Prelude.{replicate, if◌then◌else◌}
use Rattle.vt100_cells.specs.Cell.{default_cell}
use Rattle.vt100_rows.specs.Row.{RowView, blank_row, resized_row, unwrapped}
use Rattle.vt100_rows.specs.Sheet.{row_at, rows_by_position, first_rows}
use Rattle.vt100_core.specs.Grid.{GridView, IsGrid, IsAllocated}
use Rattle.vt100_core.specs.Scroll.{Scrolled, kept_after, scrolled_up}

-- the region is the whole screen, and no kept row is shown
abbrev pub whole_screen : GridView → GridView
whole_screen g = record g { top = 0; bottom = g.height - 1; kept = record (g.kept) { offset = 0 } }

-- how many rows scroll off at the top where the screen gets this height: as many as go, less those under the cursor
abbrev pub up_rows : GridView → ℕ → ℕ
up_rows g height = (g.height - height) - (g.height - 1 - g.row)

-- no row more is kept where the screen gets this height: none scrolls off, or the grid keeps none
abbrev pub KeepsNoMore : GridView → ℕ → Type 0
KeepsNoMore g height = (up_rows g height ≡ 0) ⊎ (g.kept.capacity ≡ 0)

-- the rows up to this height alone, after `up` others have scrolled off; the cursors go with their rows
abbrev pub shortened : GridView → ℕ → ℕ → GridView
shortened g up height = record g {
  rows = rows_by_position (min height (length g.rows)) (first_rows g.rows height);
  height = height;
  row = g.row - up;
  saved_row = min (g.saved_row - up) (height - 1);
  bottom = height - 1;
}

-- every row has this many columns, and so the cursors
abbrev pub with_width : GridView → ℕ → GridView
with_width g width = record g {
  rows = rows_by_position (length g.rows) (λ r. resized_row (row_at g.rows r) width default_cell);
  width = width;
  col = min g.col (width - 1);
  saved_col = min g.saved_col (width - 1);
}

-- how many rows come back at the top where the screen gets this height: as many as are added, but at most as many as
-- scrolled off
abbrev pub down_rows : GridView → ℕ → ℕ
down_rows g height = min g.kept.scrolled_off (height - g.height)

-- the rows that come back, blank where they weren't kept
abbrev pub rows_back : GridView → ℕ → List RowView
rows_back g down =
    replicate (down - length g.kept.rows) (blank_row g.width)
    ++ map (λ v. resized_row v g.width default_cell) (drop (length g.kept.rows - down) g.kept.rows)

-- rows come back at the top, blank ones follow at the bottom, and the cursors go with their rows
abbrev pub lengthened : GridView → ℕ → GridView
lengthened g height =
    let down = down_rows g height in
    record g {
      rows = if length g.rows == 0 then [] else rows_back g down ++ g.rows
          ++ replicate (height - g.height - down) (blank_row g.width);
      height = height;
      row = g.row + down;
      saved_row = g.saved_row + down;
      bottom = height - 1;
      kept = record (g.kept) {
        rows = take (length g.kept.rows - down) g.kept.rows;
        scrolled_off = g.kept.scrolled_off - down;
      };
    }

-- of a lower screen the rows under the cursor go first, and then rows scroll off at the top; to a higher one as many
-- rows come back as scrolled off. The same size changes nothing.
unfoldable pub resized : GridView → ℕ → ℕ → Scrolled
resized g height width =
    let up = up_rows g height in
    let s = scrolled_up (whole_screen g) up in
    if (height == g.height) && (width == g.width) then record { grid = g; sunk = [] }
    else if nat_lt height g.height then record { grid = with_width (shortened s.grid up height) width; sunk = s.sunk }
    else record { grid = lengthened (with_width (whole_screen g) width) height; sunk = [] }

-- ---- where each row is then

-- the row that comes to be at r on a screen of this height: one that comes back, if it was kept, one that was on the
-- screen, or a blank one
abbrev pub row_coming_to : GridView → ℕ → ℕ → ℕ → RowView
row_coming_to g height width r =
    let kept = length g.kept.rows in
    let down = down_rows g height in
    let up = up_rows g height in
    if nat_lt (r + kept) down then blank_row width
    else if nat_lt r down then row_at g.kept.rows (r + kept - down)
    else if nat_lt (r + up - down) g.height then row_at g.rows (r + up - down)
    else blank_row width

-- it gets the new width, and isn't wrapped if it is the last
abbrev pub resized_row_at : GridView → ℕ → ℕ → ℕ → RowView
resized_row_at g height width r =
    let v = row_coming_to g height width r in
    resized_row (if (r + 1) == height then unwrapped v else v) width default_cell

-- the rows that are kept then, the oldest first: those that scrolled off are among them, and those that came back
-- aren't
abbrev pub kept_rows_left : GridView → ℕ → List RowView
kept_rows_left g height =
    let rows = (kept_after g.kept (take (up_rows g height) g.rows)).rows in
    take (length rows - down_rows g height) rows

abbrev pub EachResizePlacesRows : Type 0
EachResizePlacesRows =
    (g : GridView) (height width r : ℕ) → IsGrid g → IsAllocated g → r < height
    → row_at (resized g height width).grid.rows r ≡ resized_row_at g height width r

abbrev pub EachResizeKeepsRows : Type 0
EachResizeKeepsRows =
    (g : GridView) (height width : ℕ) → IsGrid g → IsAllocated g → 0 < height
    → (resized g height width).grid.kept.rows ≡ kept_rows_left g height
