-- The cells of a row, copied into the caller's records.
use Rattle.std.specs.Prelude.{◌≡◌, ◌⊎◌, ◌<◌, ◌≤◌, ℕ, ℤ, List, length, map, take, MatchOption}
use Rattle.vt100_cells.specs.Cell.{CellView}
use Rattle.vt100_cells.specs.Cells.{by_position}
use Rattle.vt100_core.specs.Grid.{visible_row_at}
use Rattle.screen_model.specs.Call.{ScreenView}
use Rattle.termrelay.specs.Hub.{HubState, as_kept, screen_in}
use Rattle.termview.specs.Standing.{view_size, shown_by}
use Rattle.c_objects.specs.Codes.{ok, no_cell}
use Rattle.c_objects.specs.Looks.{cell_of, switch}
use Rattle.c_objects.specs.Texts.{with_prefix}
use Rattle.c_objects.specs.Views.{ViewState}
use Rattle.c_objects.specs.declared.object.Marked.{Marked}
use Rattle.c_objects.specs.declared.plain.CCell.{CCell}

-- as many of the cells as fit are copied, and all are counted
abbrev pub AreCopied : List CellView → List CCell → List CCell → ℕ → Type 0
AreCopied cells old new count = (new ≡ with_prefix (map cell_of cells) old) × (count ≡ length cells)

-- the row's cells in the screen's columns are copied, and whether its text goes on in the next row; or there is no row
abbrev pub ShowsCells : ScreenView → ℕ → List CCell → List CCell → ℕ → ℕ → ℤ → Type 0
ShowsCells v row old new count wrapped code =
    MatchOption (visible_row_at v.state.shown row) (code ≡ no_cell)
    (λ x. (code ≡ ok) × AreCopied (take v.state.shown.width x.cells) old new count × (wrapped ≡ switch x.wrapped))

abbrev pub HubHasCells : ℕ → List CCell → List CCell → ℕ → ℕ → HubState as_kept → ℤ → Type 0
HubHasCells row old new count wrapped h code = ShowsCells (screen_in h) row old new count wrapped code

abbrev pub ScreenHasCells : ℕ → List CCell → List CCell → ℕ → ℕ → Marked → ℤ → Type 0
ScreenHasCells row old new count wrapped m code = ShowsCells (m.parser.screen) row old new count wrapped code

abbrev pub ViewHasCells : ℕ → List CCell → List CCell → ℕ → ℕ → ViewState → ℤ → Type 0
ViewHasCells row old new count wrapped v code =
    (((view_size v).rows ≤ row) × (code ≡ no_cell))
    ⊎ ((row < (view_size v).rows) × (code ≡ ok)
    × AreCopied (by_position (view_size v).cols ((shown_by v).cell row)) old new count
    × (wrapped ≡ switch ((shown_by v).wrapped row)))
