use Rattle.std.proofs.Common.{◌∙◌, sym, arith}
use Rattle.vt100_cells.specs.CellEq.{cell_eq-true}
use Rattle.vt100_cells.specs.Cells.{cell_at}
use Rattle.vt100_cells.proofs.SameCells.{same-more}
use Rattle.vt100_cells.proofs.line.same_to.Goals as goal

pub loop-n-2-preserved : goal.loop-n-2-preserved
loop-n-2-preserved c =
    let f = cell_at c.args.cells.now in
    let g = cell_at c.args.others.now in
    let n = c.loop-n-2.n in
    record {
      begun = omega (arith, c.loop-n-2.invariant.begun);
      within = omega (arith, c.loop-n-2-test.true);
      same = same-more f g c.args.from n c.loop-n-2.invariant.same
          (cell_eq-true (f n) (g n) (sym c.is_same_at.ensures ∙ c.if-is_same_at.true));
    }
