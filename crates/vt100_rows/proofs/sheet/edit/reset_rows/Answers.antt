use Rattle.std.proofs.Common.{arith, length}
use Rattle.vt100_rows.specs.Row.{RowView, blank_row}
use Rattle.vt100_rows.proofs.WidthLemmas.{changes-all}
use Rattle.vt100_rows.proofs.sheet.edit.reset_rows.Goals as goal

pub returns : goal.returns
returns c =
    changes-all (λ (v : RowView). blank_row (length v.cells)) c.args.rows.now c.loop-k.rows c.loop-k.k
    c.loop-k.auto.rows (omega (arith, c.loop-k.auto.rows)) c.loop-k.invariant
