-- The terminal that a state shows, and the plain states, on which forms have their effect.
use Rattle.std.specs.Prelude.{◌+◌, ◌^◌, ◌<◌, ◌≤◌, ◌≡◌, false}
use Rattle.terminal_model.specs.Term.{Size, Term}
use Rattle.vt100_rows.specs.Sheet.{IsSheet}
use Rattle.vt100_core.specs.Grid.{GridView, IsAllocated}
use Rattle.vt100_core.specs.Picture.{grid_size, term_of_grid}
use Rattle.screen_model.specs.State.{State}
use Rattle.screen_model.specs.Shown.{extras_of}

-- the terminal that the state shows, with the saved cursor and attributes
abbrev pub terminal_of : State → Term
terminal_of s = term_of_grid s.shown (extras_of s)

-- the screen's size
abbrev pub size_shown : State → Size
size_shown s = grid_size s.shown

-- a grid that is allocated, shows no scrollback row, has no scroll region but the whole screen, and no origin mode
pub record IsPlainGrid (g : GridView) : Type 0 where
  pub sheet : IsSheet g.height g.width g.rows
  pub some : IsAllocated g
  pub few_rows : g.height < 2 ^ 16
  pub few_cols : g.width < 2 ^ 16
  pub some_cols : 0 < g.width
  pub cursor_row : g.row < g.height
  pub cursor_col : g.col ≤ g.width
  pub saved_row : g.saved_row < g.height
  pub saved_col : g.saved_col ≤ g.width
  pub top : g.top ≡ 0
  pub bottom : g.bottom + 1 ≡ g.height
  pub origin : g.origin ≡ false
  pub saved_origin : g.saved_origin ≡ false
  pub offset : g.kept.offset ≡ 0

-- the main screen is shown, not the alternate one, and its grid is plain
abbrev pub IsPlainState : State → Type 0
IsPlainState s = (s.alternate ≡ false) × IsPlainGrid s.shown
