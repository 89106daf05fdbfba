use Rattle.std.proofs.Common.{arith}
use Rattle.vt100_rows.specs.Row.{RowView, cleared_row}
use Rattle.vt100_rows.proofs.WidthLemmas.{changes-all}
use Rattle.vt100_rows.proofs.sheet.edit.clear_rows.Goals as goal

pub returns : goal.returns
returns c =
    changes-all (λ (v : RowView). cleared_row v c.args.attrs) c.args.rows.now c.loop-k.rows c.loop-k.k
    c.loop-k.auto.rows (omega (arith, c.loop-k.auto.rows)) c.loop-k.invariant
