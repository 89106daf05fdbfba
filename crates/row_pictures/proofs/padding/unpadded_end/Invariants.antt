use Rattle.std.proofs.Common.{◌≡◌, ◌≤◌}
use Rattle.row_pictures.specs.Unpadded.{unpadded_columns}
use Rattle.row_pictures.proofs.padding.unpadded_end.Given as goal

abbrev pub invariant-loop-col : goal.invariant-loop-col
invariant-loop-col l = record { columns : l.end ≡ unpadded_columns l.cells l.cursor l.col; bound : l.end ≤ l.col }
