use Rattle.std.proofs.Common.{length, arith}
use Rattle.vt100_cells.specs.Cells.{cell_at}
use Rattle.termrelay.proofs.RowLemmas.{rows-compared_to}
use Rattle.termrelay.proofs.shown.are_same.Goals as goal

pub returns : goal.returns
returns c =
    let n = length c.args.cells.now in
    let end = c.min-end.result in
    rows-compared_to n end c.same_to.result (cell_at c.args.cells.now) (cell_at c.args.others.now)
    (omega (arith, c.min-end.ensures))
    (λ k le lt. c.requires.blank k (omega (arith, le, lt, c.min-end.ensures)) lt)
    c.same_to.ensures.within.1 c.same_to.ensures.same c.same_to.ensures.differs
