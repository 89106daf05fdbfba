-- Lines that come in and go.
use Rattle.std.specs.Prelude.{ℕ, ◌+◌, ◌-◌, ◌&&◌, nat_lt, min, if◌then◌else◌}
use Rattle.vt100_rows.specs.Sheet.{moved_up, opened_line}
use Rattle.vt100_core.specs.Grid.{GridView, is_in_region, with_rows}
use Rattle.vt100_core.specs.Cursor.{moved_rows_up}

-- n blank lines come in at row `first`, as many as there are down to the region's end; those that they push out of the
-- region are gone
abbrev pub lines_opened : GridView → ℕ → ℕ → GridView
lines_opened g first n = with_rows g (opened_line g.rows first (g.bottom + 1) (min n (g.bottom + 1 - first)) g.width)

abbrev pub lines_inserted : GridView → ℕ → GridView
lines_inserted g n = if nat_lt 0 n && is_in_region g then lines_opened g g.row n else g

-- n lines go at row `first`, as many as there are down to the region's end, where blank ones follow
abbrev pub lines_closed : GridView → ℕ → ℕ → GridView
lines_closed g first n = with_rows g (moved_up g.rows first (g.bottom + 1) (min n (g.bottom + 1 - first)) g.width)

abbrev pub lines_deleted : GridView → ℕ → GridView
lines_deleted g n = if is_in_region g then lines_closed g g.row n else g

abbrev pub scrolled_down : GridView → ℕ → GridView
scrolled_down g n = if nat_lt 0 n then lines_opened g g.top n else g

-- how many of n rows up are left when the cursor has come to the region's top, or to the screen's
abbrev pub rows_past_top : GridView → ℕ → ℕ
rows_past_top g n = (if is_in_region g then g.top + n else n) - g.row

-- n rows up, where the region scrolls down by those that are left at its top
abbrev pub fed_up : GridView → ℕ → GridView
fed_up g n = scrolled_down (moved_rows_up g n) (rows_past_top g n)
