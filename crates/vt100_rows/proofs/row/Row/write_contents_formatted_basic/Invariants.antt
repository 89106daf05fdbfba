use Rattle.vt100_cells.specs.Cells.{cell_at}
use Rattle.vt100_rows.proofs.BasicLemmas.{IsBasic}
use Rattle.vt100_rows.proofs.row.Row.write_contents_formatted_basic.Given as goal

abbrev pub invariant-loop-col : goal.invariant-loop-col
invariant-loop-col g l = IsBasic {W = g.row.W.Denot} g.W.Write.write_str_gives (cell_at l.self.cells)
    l.initial.current_attrs l.col l.initial.writer l.writer l.current_attrs
