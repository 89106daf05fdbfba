use Rattle.std.proofs.Common.{ap, arith, sym, ◌∙◌, ◌-◌}
use Rattle.vt100_cells.specs.Cell.{has_text}
use Rattle.vt100_rows.specs.Picture.{lines_of}
use Rattle.vt100_core.specs.Picture.{grid_size}
use Rattle.vt100_core.proofs.WriterLemmas.{end-above}
use Rattle.vt100_core.proofs.grid.Grid.row_with_end.Goals as goal

pub loop-row-preserved : goal.loop-row-preserved
loop-row-preserved c =
    let g = c.args.self.now in
    let r = c.loop-row.row in
    let empty = ap has_text (sym c.last_cell.ensures) ∙ sym c.has_contents.ensures ∙ c.loop-row-test.true in
    record {
      within = omega arith;
      same = c.loop-row.invariant.same ∙ end-above (grid_size g) (lines_of g.rows) r (r - 1) (omega arith) empty;
    }
