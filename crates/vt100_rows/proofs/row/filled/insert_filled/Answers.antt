use Rattle.std.proofs.Common.{arith}
use Rattle.vt100_rows.proofs.FilledLemmas.{inserts-filled, inserts-none}
use Rattle.vt100_rows.proofs.row.filled.insert_filled.Goals as goal

pub returns-then-i-filled : goal.returns-then-i-filled
returns-then-i-filled c =
    inserts-filled c.args.cells.now c.insert.new.cells c.args.i c.args.count c.args.filled c.min-end.result
    c.requires.paired c.requires.blank (omega (arith, c.if-i-filled.true)) c.requires.in_row (omega arith) cc

pub returns-else-i-filled : goal.returns-else-i-filled
returns-else-i-filled c =
    inserts-none c.args.cells.now c.args.i c.args.count c.args.filled c.requires.paired c.requires.blank
    (omega (arith, c.if-i-filled.false))
