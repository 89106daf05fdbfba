-- Scrolling up, and the rows that leave the screen. A row that leaves for good is given to a sink; a result says which
-- rows, in their order.
use Rattle.std.specs.Prelude.{ℕ, ◌+◌, ◌-◌, ◌^◌, ◌<◌, ◌==◌, Bool, not, ◌&&◌, nat_le, min, List, [], ◌++◌, length, take}
use Rattle.std.specs.Prelude.{drop}
use Rattle.std.specs.Prelude.{◌≡◌, map, if◌then◌else◌, Result, OnOk, IsOk}
use Rattle.vt100_cells.specs.Cell.{default_cell}
use Rattle.vt100_rows.specs.Row.{RowView, grown, trimmed, with_wrap}
use Rattle.vt100_rows.specs.Sheet.{row_at, rows_by_position, moved_up, changed_between}
use Rattle.vt100_rows.specs.Sink.{TakesAll}
use Rattle.vt100_core.specs.Grid.{KeptPart, GridView, IsAllocated, SameLimits, with_row, with_rows, is_in_region}
use Rattle.vt100_core.specs.Cursor.{moved_rows_down}

-- a grid, and the rows that have left for good on the way to it, the first to leave first
pub record Scrolled : Type 0 where
  pub grid : GridView
  pub sunk : List RowView

-- no row scrolls off at the top on the way from g to h, as the counts say; a count at its maximum says nothing
abbrev pub ScrollsNoneOff : GridView → GridView → Type 0
ScrollsNoneOff g h = (g.kept.scrolled_off < 2 ^ 64 - 1) × (h.kept.scrolled_off ≡ g.kept.scrolled_off)

-- what a call does that makes a grid g into h and a sink s into t: it gives the sink the rows that leave for good on
-- the way to o, also where it is refused, and h is the grid of o unless it is. It is refused only where rows scroll
-- off that are kept.
pub record ScrollsTo {S : Type 0} (takes : S → RowView → S → Type 0) (s t : S) (g h : GridView) {T E : Type 0}
    (result : Result T E) (o : Scrolled) : Type 0 where
  pub grid : OnOk result (h ≡ o.grid)
  pub sink : TakesAll takes s o.sunk t
  pub limits : SameLimits g h
  pub keeps_none : g.kept.capacity ≡ 0 → IsOk result
  pub stays : ScrollsNoneOff g o.grid → IsOk result
  pub allocated : IsAllocated h

-- ---- what is kept

-- kept rows that a screen of this height shows are made at least as wide as it, with default cells
abbrev pub widened : KeptPart → ℕ → ℕ → KeptPart
widened k height width = record k {
  rows = rows_by_position (length k.rows)
      (changed_between (λ v. grown v width default_cell) k.rows (length k.rows - k.offset)
      (length k.rows - k.offset + height));
}

-- how many kept rows go where n more rows come
abbrev pub overflow : KeptPart → ℕ → ℕ
overflow k n = (length k.rows + min n k.capacity) - k.capacity

-- after these rows have scrolled off: of the kept rows followed by these the last are kept, as many as the capacity
-- allows. Those that are newly kept lose the default cells at their end. What is shown stays, unless it is gone.
abbrev pub kept_after : KeptPart → List RowView → KeptPart
kept_after k left =
    let rows = drop (overflow k (length left)) k.rows
    ++ map trimmed (drop (length left - min (length left) k.capacity) left) in
    record k {
      rows = rows;
      offset = if k.offset == 0 then 0 else min (k.offset + length left) (length rows);
      scrolled_off = min (k.scrolled_off + length left) (2 ^ 64 - 1);
    }

-- the rows that these push out: the oldest kept ones, and then those that are never kept, with all their cells
abbrev pub pushed_out : KeptPart → List RowView → List RowView
pushed_out k left = take (overflow k (length left)) k.rows ++ take (length left - min (length left) k.capacity) left

-- ---- scrolling up

-- as many lines as the region has, at most
abbrev pub up_count : GridView → ℕ → ℕ
up_count g n = min n (g.bottom + 1 - g.top)

-- the rows that leave the region at its top
abbrev pub left_rows : GridView → ℕ → List RowView
left_rows g n = take (up_count g n) (drop g.top g.rows)

-- whether rows that leave the region at its top are kept: it begins at the screen's first row
abbrev pub is_kept_from : GridView → Bool
is_kept_from g = (g.top == 0) && g.kept.keeps

-- the region's lines move n up. Rows that leave it below the screen's first row are gone, and no sink is given them.
unfoldable pub scrolled_up : GridView → ℕ → Scrolled
scrolled_up g n = record {
  grid = record (with_rows g (moved_up g.rows g.top (g.bottom + 1) (up_count g n) g.width)) {
    kept = if is_kept_from g then widened (kept_after g.kept (left_rows g n)) g.height g.width else g.kept;
  };
  sunk =
      if not (g.top == 0) then []
      else if g.kept.keeps then pushed_out g.kept (left_rows g n)
      else left_rows g n;
}

-- ---- the cursor that scrolls

-- how many of n rows down are left when the cursor has come to the region's last row
abbrev pub rows_past_bottom : GridView → ℕ → ℕ
rows_past_bottom g n = if is_in_region g then min (g.row + n) 65535 - g.bottom else 0

-- n rows down, where the region scrolls up by those that are left at its last row
unfoldable pub fed : GridView → ℕ → Scrolled
fed g n = if is_in_region g then scrolled_up (moved_rows_down g n) (rows_past_bottom g n)
    else record { grid = moved_rows_down g n; sunk = [] }

-- where the row that the cursor leaves is after a line feed
abbrev pub left_row : GridView → ℕ
left_row g = if g.row == g.bottom then g.row - 1 else g.row

-- the cursor goes to the first column of the next row. The row that it left is wrapped if `wrap` is set, it shows
-- something in its last column, and it is now directly above; else it isn't wrapped any more. On a screen of one row
-- that row is gone.
unfoldable pub wrapped_on : GridView → Bool → Scrolled
wrapped_on g wrap =
    let h = (fed (record g { col = 0 }) 1).grid in
    record {
      grid =
          if (g.row == g.bottom) && (g.row == 0) then h
          else with_row h (left_row g) (with_wrap (row_at h.rows (left_row g)) (wrap && ((left_row g + 1) == h.row)));
      sunk = (fed (record g { col = 0 }) 1).sunk;
    }

-- the same where fewer columns are left than these
abbrev pub made_to_fit : GridView → ℕ → Bool → Scrolled
made_to_fit g columns wrap = if nat_le (g.col + columns) g.width then record { grid = g; sunk = [] }
    else wrapped_on g wrap

-- ---- what is kept, by itself

abbrev pub scrollback_erased : GridView → GridView
scrollback_erased g = record g { kept = record (g.kept) { rows = []; offset = 0; scrolled_off = 0 } }

abbrev pub scrollback_shown : GridView → ℕ → GridView
scrollback_shown g n = record g {
  kept = widened (record (g.kept) { offset = min n (length g.kept.rows) }) g.height
      g.width;
}
