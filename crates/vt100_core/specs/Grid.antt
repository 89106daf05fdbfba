-- What a contract sees of a grid, and what is true of each.
use Rattle.std.specs.Prelude.{ℕ, ◌+◌, ◌-◌, ◌^◌, ◌<◌, ◌≤◌, ◌≡◌, ◌==◌, Bool, true, false, ◌&&◌, nat_lt, nat_le, List, []}
use Rattle.std.specs.Prelude.{length, replicate, slice_set, slice_get, Option, Some, None, if◌then◌else◌}
use Rattle.vt100_cells.specs.Cell.{CellView}
use Rattle.vt100_rows.specs.Row.{RowView, IsRow, blank_row}
use Rattle.vt100_rows.specs.Sheet.{row_at, rows_by_position, IsSheet}
use Rattle.vt100_core.specs.declared.scrollback.Scrollback.{Scrollback}
use Rattle.vt100_core.specs.declared.scrollback.Scrollback.TheVariants.{Disabled, Enabled}

-- the rows that left the screen at its top and are kept, the oldest first
pub record KeptPart : Type 0 where
  -- whether rows are kept at all
  pub keeps : Bool
  pub rows : List RowView
  -- how many are kept at most
  pub capacity : ℕ
  -- how many of them, from the newest back, are shown in place of the screen's last rows
  pub offset : ℕ
  -- how many rows have scrolled off in all, kept or not
  pub scrolled_off : ℕ

pub record GridView : Type 0 where
  -- the rows that are drawn on, from the top; none before they are allocated
  pub rows : List RowView
  pub height : ℕ
  pub width : ℕ
  -- the cursor; past the last column where the next character wraps first
  pub row : ℕ
  pub col : ℕ
  pub saved_row : ℕ
  pub saved_col : ℕ
  -- whether places of the cursor are counted from the scroll region's top
  pub origin : Bool
  pub saved_origin : Bool
  -- the scroll region's first and last row
  pub top : ℕ
  pub bottom : ℕ
  pub kept : KeptPart

-- ---- creating one

abbrev pub keeps_of : Scrollback → Bool
keeps_of Disabled = false
keeps_of (Enabled capacity) = true

abbrev pub capacity_of : Scrollback → ℕ
capacity_of Disabled = 0
capacity_of (Enabled capacity) = capacity

-- the scrollback that a grid with this part was created with
abbrev pub scrollback_of : KeptPart → Scrollback
scrollback_of k = if k.keeps then Enabled k.capacity else Disabled

abbrev pub new_grid : ℕ → ℕ → Scrollback → GridView
new_grid height width scrollback = record {
  rows = [];
  height = height;
  width = width;
  row = 0;
  col = 0;
  saved_row = 0;
  saved_col = 0;
  origin = false;
  saved_origin = false;
  top = 0;
  bottom = height - 1;
  kept = record {
    keeps = keeps_of scrollback;
    rows = [];
    capacity = capacity_of scrollback;
    offset = 0;
    scrolled_off = 0;
  };
}

-- ---- what is true of each

pub record IsKept (k : KeptPart) : Type 0 where
  pub each : (j : ℕ) → j < length k.rows → IsRow (row_at k.rows j)
  pub fits : length k.rows ≤ k.capacity
  pub counted : length k.rows ≤ k.scrolled_off
  pub offset : k.offset ≤ length k.rows
  pub none : k.keeps ≡ false → (k.capacity ≡ 0) × (k.scrolled_off ≡ 0)
  -- the count stops there
  pub bounded : k.scrolled_off < 2 ^ 64

-- a kept row that a screen of this size shows is at least as wide as it
abbrev pub IsShownWide : KeptPart → ℕ → ℕ → Type 0
IsShownWide k height width =
    (j : ℕ) → length k.rows - k.offset ≤ j → j < length k.rows - k.offset + height → j < length k.rows
    → width ≤ length (row_at k.rows j).cells

pub record IsGrid (g : GridView) : Type 0 where
  pub sheet : IsSheet g.height g.width g.rows
  pub some_rows : 0 < g.height
  pub some_cols : 0 < g.width
  pub few_rows : g.height < 2 ^ 16
  pub few_cols : g.width < 2 ^ 16
  pub cursor_row : g.row < g.height
  pub cursor_col : g.col ≤ g.width
  pub saved_row : g.saved_row < g.height
  pub saved_col : g.saved_col ≤ g.width
  pub region : g.top ≤ g.bottom
  pub region_end : g.bottom < g.height
  -- only a screen of one row has a region of one row
  pub region_lines : g.top ≡ g.bottom → g.height ≡ 1
  pub kept : IsKept g.kept
  pub shown : IsShownWide g.kept g.height g.width
  -- a grid without rows is a new one
  pub fresh : length g.rows ≡ 0 → g ≡ new_grid g.height g.width (scrollback_of g.kept)

-- whether the grid has its rows
abbrev pub IsAllocated : GridView → Type 0
IsAllocated g = 0 < length g.rows

-- ---- what a refusal leaves

-- whether rows are kept, and the capacity, are the same
pub record SameKeeping (k m : KeptPart) : Type 0 where
  pub keeps : m.keeps ≡ k.keeps
  pub capacity : m.capacity ≡ k.capacity

-- two grids of one size and with the same capacity
pub record SameLimits (g h : GridView) : Type 0 where
  pub height : h.height ≡ g.height
  pub width : h.width ≡ g.width
  pub kept : SameKeeping g.kept h.kept

-- ---- rows for a new grid

abbrev pub allocated : GridView → GridView
allocated g = if length g.rows == 0 then record g { rows = replicate g.height (blank_row g.width) } else g

-- blank rows, and cursor, region and modes as in a new grid; what is kept stays
abbrev pub cleared : GridView → GridView
cleared g = record (new_grid g.height g.width Disabled) {
  rows = replicate (length g.rows) (blank_row g.width);
  kept = g.kept;
}

-- ---- what is shown

-- the row shown at r: the newest `offset` kept rows are above the others
abbrev pub visible_at : GridView → ℕ → RowView
visible_at g r =
    if nat_lt r g.kept.offset then row_at g.kept.rows (length g.kept.rows - g.kept.offset + r)
    else row_at g.rows (r - g.kept.offset)

-- the rows that are shown, as many as are drawn on
abbrev pub visible : GridView → List RowView
visible g = rows_by_position (length g.rows) (visible_at g)

abbrev pub visible_row_at : GridView → ℕ → Option RowView
visible_row_at g r = if nat_lt r (length g.rows) then Some (visible_at g r) else None

abbrev pub drawing_row_at : GridView → ℕ → Option RowView
drawing_row_at g r = if nat_lt r (length g.rows) then Some (row_at g.rows r) else None

-- the cell at column c of a row, if the row is there and goes that far
abbrev pub cell_in : Option RowView → ℕ → Option CellView
cell_in None c = None
cell_in (Some v) c = slice_get v.cells c

-- ---- changing rows

-- the grid with this in place of row r
abbrev pub with_row : GridView → ℕ → RowView → GridView
with_row g r v = record g { rows = slice_set g.rows r v }

-- the grid where the row at each r is f r
abbrev pub with_rows : GridView → (ℕ → RowView) → GridView
with_rows g f = record g { rows = rows_by_position (length g.rows) f }

-- the cursor's row
abbrev pub row_of_cursor : GridView → RowView
row_of_cursor g = row_at g.rows g.row

-- the grid with this in place of the cursor's row
abbrev pub with_cursor_row : GridView → RowView → GridView
with_cursor_row g v = with_row g g.row v

-- whether the cursor is in the scroll region
abbrev pub is_in_region : GridView → Bool
is_in_region g = nat_le g.top g.row && nat_le g.row g.bottom
