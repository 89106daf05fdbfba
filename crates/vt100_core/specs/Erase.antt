-- Erasing, and cells that come in and go.
use Rattle.std.specs.Prelude.{ℕ, ◌+◌, ◌-◌, min}
use Rattle.vt100_forms.specs.declared.attrs.Attrs.{Attrs}
use Rattle.vt100_rows.specs.Row.{cleared_row, wiped_row, inserted, removed}
use Rattle.vt100_rows.specs.Sheet.{row_at, erased_forward_at, erased_backward_at}
use Rattle.vt100_core.specs.Grid.{GridView, with_rows, with_cursor_row, row_of_cursor}

-- every row is empty
abbrev pub all_erased : GridView → Attrs → GridView
all_erased g a = with_rows g (λ r. cleared_row (row_at g.rows r) a)

abbrev pub all_erased_forward : GridView → Attrs → GridView
all_erased_forward g a = with_rows g (erased_forward_at g.rows g.row g.col g.width a)

-- the columns up to the cursor's, and its own; all of them where the cursor is past the last
abbrev pub columns_to_cursor : GridView → ℕ
columns_to_cursor g = min g.col (g.width - 1) + 1

abbrev pub all_erased_backward : GridView → Attrs → GridView
all_erased_backward g a = with_rows g (erased_backward_at g.rows g.row (columns_to_cursor g) a)

-- ---- the cursor's row

abbrev pub row_erased : GridView → Attrs → GridView
row_erased g a = with_cursor_row g (cleared_row (row_of_cursor g) a)

-- the columns from s up to e of the cursor's row are empty
abbrev pub columns_erased : GridView → ℕ → ℕ → Attrs → GridView
columns_erased g s e a = with_cursor_row g (wiped_row (row_of_cursor g) s e a)

abbrev pub cells_inserted : GridView → ℕ → GridView
cells_inserted g n = with_cursor_row g (inserted (row_of_cursor g) g.col n)

abbrev pub cells_deleted : GridView → ℕ → GridView
cells_deleted g n = with_cursor_row g (removed (row_of_cursor g) g.col (min (g.col + n) g.width))
