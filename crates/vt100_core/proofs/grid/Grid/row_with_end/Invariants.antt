use Rattle.std.proofs.Common.{◌≡◌, ◌≤◌}
use Rattle.screen_drawing.specs.Cursor.{row_with_end}
use Rattle.vt100_rows.specs.Picture.{lines_of}
use Rattle.vt100_core.specs.Picture.{grid_size}
use Rattle.vt100_core.proofs.grid.Grid.row_with_end.Given as goal

-- no row below this one has a text at its end
abbrev pub invariant-loop-row : goal.invariant-loop-row
invariant-loop-row l = record {
  within : l.row ≤ l.self.row;
  same : row_with_end (grid_size l.self) (lines_of l.self.rows) l.self.row
      ≡ row_with_end (grid_size l.self) (lines_of l.self.rows) l.row;
}

abbrev pub decreases-loop-row : goal.decreases-loop-row
decreases-loop-row l = l.row
