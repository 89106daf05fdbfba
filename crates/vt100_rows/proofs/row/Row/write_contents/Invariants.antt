use Rattle.std.proofs.Common.{◌≤◌, ◌-◌}
use Rattle.std.specs.Prelude.{string_bytes, string_capacity}
use Rattle.vt100_cells.specs.Cells.{cell_at}
use Rattle.vt100_rows.proofs.TextLemmas.{IsWritten}
use Rattle.vt100_rows.proofs.row.Row.write_contents.Given as goal

abbrev pub invariant-loop-col : goal.invariant-loop-col
invariant-loop-col l = record {
  written : IsWritten (cell_at l.self.cells) l.start (l.col - l.start) (string_bytes l.initial.contents)
      (string_bytes l.contents) l.blanks l.shown;
  capacity : string_capacity l.initial.contents ≤ string_capacity l.contents;
}
