-- A character that is printed again and again, once nothing changes any more but what is kept.
use Rattle.std.specs.Prelude.{◌≡◌, ◌⊎◌, ℕ, ◌+◌, ◌*◌, ◌<◌, ◌≤◌, Some, replicate}
use Rattle.vt100_forms.specs.declared.attrs.Attrs.{Attrs}
use Rattle.vt100_cells.specs.Cell.{drawn_columns}
use Rattle.vt100_core.specs.Grid.{GridView}
use Rattle.vt100_core.specs.Scroll.{Scrolled, fed}
use Rattle.vt100_core.specs.Text.{printed_all}
use Rattle.vt100_core.specs.Copy.{without_kept}

-- what a line feed does to the kept rows, where the rows that are drawn on and the cursor stay
abbrev pub fed_alike : GridView → Scrolled
fed_alike g = record { grid = record g { kept = (fed g 1).grid.kept }; sunk = (fed g 1).sunk }

-- The cursor's row has no room for a character c of n columns. `times` of them fit into a row, and printing these
-- makes the same rows and the same cursor again.
pub record IsSettled (g : GridView) (c n times : ℕ) (a : Attrs) : Type 0 where
  pub drawn : drawn_columns c ≡ Some n
  pub columns : (n ≡ 1) ⊎ (n ≡ 2)
  pub some : 0 < times
  pub fits : n * times ≤ g.width
  pub full : g.width < g.col + n
  pub same : without_kept (printed_all g (replicate times c) a).grid ≡ without_kept g
