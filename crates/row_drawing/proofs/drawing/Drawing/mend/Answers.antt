use Rattle.std.proofs.Common.{arith}
use Rattle.row_drawing.proofs.RowWrites.{unflagged_col}
use Rattle.row_drawing.proofs.RowEnd.{mend-ends, mend-wraps}
use Rattle.row_drawing.proofs.WritesLemmas.{wrote_both, wrote_by}
use Rattle.row_drawing.proofs.drawing.Drawing.mend.Goals as goal

pub returns-then-self-clause-written : goal.returns-then-self-clause-written
returns-then-self-clause-written c = wrote_by (mend-wraps _ _ _ c.if-self.true) c.print_last.ensures.written

pub print_last-requires-2-clause-fits : goal.print_last-requires-2-clause-fits
print_last-requires-2-clause-fits c =
    let same = unflagged_col _ c.unflag.ensures.written in omega (arith, same, c.requires.fits)

pub returns-clause-written : goal.returns-clause-written
returns-clause-written c =
    wrote_by (mend-ends _ _ _ c.if-self.false) (wrote_both c.unflag.ensures.written c.print_last-2.ensures.written)
