-- Where the cursor goes.
use Rattle.std.specs.Prelude.{ℕ, ◌+◌, ◌-◌, ◌*◌, ◌/◌, Bool, nat_lt, min, max, if◌then◌else◌}
use Rattle.vt100_core.specs.Grid.{GridView, is_in_region}

-- a row counted from the region's top and kept in it in origin mode, else kept on the screen; a column kept on the
-- screen
abbrev pub cursor_at : GridView → ℕ → ℕ → GridView
cursor_at g row col = record g {
  row = if g.origin then min (row + g.top) g.bottom else min row (g.height - 1);
  col = min col (g.width - 1);
}

abbrev pub with_origin : GridView → Bool → GridView
with_origin g mode = cursor_at (record g { origin = mode }) 0 0

abbrev pub cursor_saved : GridView → GridView
cursor_saved g = record g { saved_row = g.row; saved_col = g.col; saved_origin = g.origin }

abbrev pub cursor_restored : GridView → GridView
cursor_restored g = record g { row = g.saved_row; col = g.saved_col; origin = g.saved_origin }

-- the region from row `top` to row `bottom`, where these are two rows or more of the screen, else the whole screen; the
-- cursor goes to its first cell
abbrev pub with_region : GridView → ℕ → ℕ → GridView
with_region g top bottom =
    if nat_lt top (min bottom (g.height - 1))
    then record g { top = top; bottom = min bottom (g.height - 1); row = top; col = 0 }
    else record g { top = 0; bottom = g.height - 1; row = 0; col = 0 }

-- n rows down, to the region's last row where the cursor is in the region, else to the screen's
abbrev pub moved_rows_down : GridView → ℕ → GridView
moved_rows_down g n = record g { row = min (g.row + n) (if is_in_region g then g.bottom else g.height - 1) }

-- n rows up, to the region's first row where the cursor is in the region, else to the screen's
abbrev pub moved_rows_up : GridView → ℕ → GridView
moved_rows_up g n = record g { row = if is_in_region g then max (g.row - n) g.top else g.row - n }

-- the next tab stop, one every eight columns, or the last column
abbrev pub tab_stop : GridView → ℕ
tab_stop g = min (g.col / 8 * 8 + 8) (g.width - 1)
