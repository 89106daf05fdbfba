use Rattle.std.proofs.Common.{◌≡◌, ◌≤◌}
use Rattle.screentext_command.specs.Rows.{shown_columns}
use Rattle.screentext_command.proofs.rows.row_end.Given as goal

abbrev pub invariant-loop-i : goal.invariant-loop-i
invariant-loop-i l = record { columns : l.end ≡ shown_columns l.look l.cells l.i; bound : l.end ≤ l.i }
