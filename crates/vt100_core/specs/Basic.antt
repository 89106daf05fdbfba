-- The rows of a grid that a capture takes in.
use Rattle.std.specs.Prelude.{List, ◌++◌}
use Rattle.vt100_rows.specs.Row.{RowView}
use Rattle.vt100_capture.specs.declared.state.BasicFormattedCaptureRange.{BasicFormattedCaptureRange}
use Rattle.vt100_capture.specs.declared.state.BasicFormattedCaptureRange.TheVariants.{Full, Visible}
use Rattle.vt100_core.specs.Grid.{GridView, visible}

-- the kept rows and those that are drawn on, or those that are shown
abbrev pub rows_in : GridView → BasicFormattedCaptureRange → List RowView
rows_in g (Full state) = g.kept.rows ++ g.rows
rows_in g Visible = visible g
