use Rattle.std.proofs.Common.{sym, arith}
use Rattle.row_drawing.proofs.RowWrites.{colored_col}
use Rattle.row_drawing.proofs.RowEnd.{print-last_is, print-last_none}
use Rattle.row_drawing.proofs.WritesLemmas.{wrote_both, wrote_by, wrote_skip}
use Rattle.row_drawing.proofs.pen.Pen.print_last.Goals as goal

pub returns-then-not-has_contents-clause-written : goal.returns-then-not-has_contents-clause-written
returns-then-not-has_contents-clause-written c =
    wrote_by (print-last_none _ _ (sym c.if-not-has_contents.ensures)) (wrote_skip _ _)

pub print-requires-clause-fits : goal.print-requires-clause-fits
print-requires-clause-fits c =
    let same = colored_col _ c.color.ensures.written in omega (arith, same, c.requires.fits)

pub returns-clause-written : goal.returns-clause-written
returns-clause-written c =
    wrote_by (print-last_is _ _ (sym c.if-not-has_contents.ensures))
    (wrote_both c.color.ensures.written c.print.ensures.written)
