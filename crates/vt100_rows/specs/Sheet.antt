-- Lists of rows, by positions.
use Rattle.std.specs.Prelude.{ℕ, ◌+◌, ◌-◌, ◌<◌, ◌≡◌, ◌==◌, false, ◌&&◌, ◌||◌, nat_lt, nat_le, List, length, map}
use Rattle.std.specs.Prelude.{slice_index_or, if◌then◌else◌}
use Rattle.std.specs.List.{range_with_len}
use Rattle.vt100_forms.specs.declared.attrs.Attrs.{Attrs}
use Rattle.vt100_rows.specs.Row.{RowView, IsRow, blank_row, unwrapped, cleared_row, wiped_row}

-- the row at r; a row without cells past the last
abbrev pub row_at : List RowView → ℕ → RowView
row_at rows r = slice_index_or rows r (blank_row 0)

-- n rows, where the one at r is f r
abbrev pub rows_by_position : ℕ → (ℕ → RowView) → List RowView
rows_by_position n f = map f (range_with_len 0 n)

-- what a row of a screen of this width is
pub record IsRowOf (width : ℕ) (v : RowView) : Type 0 where
  pub row : IsRow v
  pub wide : length v.cells ≡ width

-- these are rows of a screen of this width
abbrev pub AreRowsOf : ℕ → List RowView → Type 0
AreRowsOf width rows = (r : ℕ) → r < length rows → IsRowOf width (row_at rows r)

-- what the rows of a screen are: none yet, or one for each line, all of one width, the last of which never goes on in
-- another
pub record IsSheet (height width : ℕ) (rows : List RowView) : Type 0 where
  pub count : 0 < length rows → length rows ≡ height
  pub each : (r : ℕ) → r < length rows → IsRowOf width (row_at rows r)
  pub last : (row_at rows (height - 1)).wrapped ≡ false

-- as many rows, and each as wide as the one in its place
pub record HaveSameWidths (rows others : List RowView) : Type 0 where
  pub count : length rows ≡ length others
  pub widths : (r : ℕ) → r < length rows → length (row_at rows r).cells ≡ length (row_at others r).cells

-- from row `first` up to row `end` the rows are n further up, and n blank rows follow them; no other row changes
abbrev pub moved_up : List RowView → ℕ → ℕ → ℕ → ℕ → ℕ → RowView
moved_up rows first end n width r =
    if nat_lt r first || nat_le end r then row_at rows r
    else if nat_lt (r + n) end then row_at rows (r + n)
    else blank_row width

-- the same, where the n rows that leave at the top come in at the bottom
abbrev pub turned_up : List RowView → ℕ → ℕ → ℕ → ℕ → RowView
turned_up rows first end n r =
    if nat_lt r first || nat_le end r then row_at rows r
    else if nat_lt (r + n) end then row_at rows (r + n)
    else row_at rows (r + n - (end - first))

-- from row `first` up to row `end` n blank rows come in at the top, and the others are n further down; no other row
-- changes
abbrev pub moved_down : List RowView → ℕ → ℕ → ℕ → ℕ → ℕ → RowView
moved_down rows first end n width r =
    if nat_lt r first || nat_le end r then row_at rows r
    else if nat_lt r (first + n) then blank_row width
    else row_at rows (r - n)

-- the same, where the row at `end - 1` isn't wrapped any more, since its text went on in a row that is gone
abbrev pub opened_line : List RowView → ℕ → ℕ → ℕ → ℕ → ℕ → RowView
opened_line rows first end n width r =
    if (r + 1) == end then unwrapped (moved_down rows first end n width r) else moved_down rows first end n width r

-- from row `first` up to row `end` each row is f of what it was; no other row changes
abbrev pub changed_between : (RowView → RowView) → List RowView → ℕ → ℕ → ℕ → RowView
changed_between f rows first end r = if nat_le first r && nat_lt r end then f (row_at rows r) else row_at rows r

-- the cursor's row is empty from the cursor on, and every row below it
abbrev pub erased_forward_at : List RowView → ℕ → ℕ → ℕ → Attrs → ℕ → RowView
erased_forward_at rows row col width a r =
    if nat_lt row r then cleared_row (row_at rows r) a
    else if r == row then wiped_row (row_at rows r) col width a
    else row_at rows r

-- every row above row `row` is empty, and that row's first `end` columns
abbrev pub erased_backward_at : List RowView → ℕ → ℕ → Attrs → ℕ → RowView
erased_backward_at rows row end a r =
    if nat_lt r row then cleared_row (row_at rows r) a
    else if r == row then wiped_row (row_at rows r) 0 end a
    else row_at rows r

-- the row at r of the rows up to this height alone: the last isn't wrapped any more
abbrev pub first_rows : List RowView → ℕ → ℕ → RowView
first_rows rows height r = if (r + 1) == height then unwrapped (row_at rows r) else row_at rows r
