use Rattle.std.proofs.Common.{◌∙◌, sym, arith}
use Rattle.vt100_cells.specs.CellEq.{cell_eq-true}
use Rattle.vt100_cells.specs.Cells.{cell_at}
use Rattle.vt100_cells.proofs.SameCells.{same-more}
use Rattle.vt100_cells.proofs.line.alike_to.Goals as goal

pub loop-n-2-preserved : goal.loop-n-2-preserved
loop-n-2-preserved c =
    let x = c.args.cell.now in
    record {
      begun = omega (arith, c.loop-n-2.invariant.begun);
      within = omega (arith, c.loop-n-2-test.true);
      same = same-more (cell_at c.args.cells.now) (λ _. x) c.args.from c.loop-n-2.n c.loop-n-2.invariant.same
          (sym c.at.ensures ∙ sym (cell_eq-true x c.at.result.now (sym c.is_same.ensures ∙ c.if-is_same.true)));
    }
