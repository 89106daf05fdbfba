-- Copies and comparisons of what is drawn on.
use Rattle.std.specs.Prelude.{◌≡◌, ℕ, ◌+◌, Bool, true, ◌&&◌, nat_lt, []}
use Rattle.vt100_cells.specs.Cell.{default_cell}
use Rattle.vt100_rows.specs.Row.{RowView, resized_row, with_wrap}
use Rattle.vt100_core.specs.Grid.{KeptPart, GridView, visible_at, with_rows}

-- no row is kept
abbrev pub nothing_kept : KeptPart
nothing_kept = record { keeps = true; rows = []; capacity = 0; offset = 0; scrolled_off = 0 }

-- the grid without its kept rows, which keeps none from now on
abbrev pub without_kept : GridView → GridView
without_kept g = record g { kept = nothing_kept }

-- ---- what is shown as rows to draw on

-- The row with this many columns: a wide character that its end cuts is blank. It goes on in the next row if it did
-- before, there is one, and its last column shows something.
abbrev pub fitted_row : RowView → ℕ → Bool → RowView
fitted_row v width followed = with_wrap (resized_row v width default_cell) (v.wrapped && followed)

-- the row shown at r, as wide as the screen
abbrev pub fitted_at : GridView → ℕ → RowView
fitted_at g r = fitted_row (visible_at g r) g.width (nat_lt (r + 1) g.height)

-- the grid with the rows that are shown in place of those that are drawn on, which keeps none from now on
abbrev pub visible_as_drawn : GridView → GridView
visible_as_drawn g = without_kept (with_rows g (fitted_at g))

-- ---- comparisons

-- two grids of one size have the same rows and the same cursor
pub record AreDrawnAlike (g h : GridView) : Type 0 where
  pub height : g.height ≡ h.height
  pub width : g.width ≡ h.width
  pub row : g.row ≡ h.row
  pub col : g.col ≡ h.col
  pub rows : g.rows ≡ h.rows
