use Rattle.std.proofs.Common.{arith, length}
use Rattle.vt100_rows.specs.Row.{blank_row}
use Rattle.vt100_rows.proofs.SheetLemmas.{changes-done}
use Rattle.vt100_rows.proofs.sheet.Sheet.reset_between.Goals as goal

pub returns : goal.returns
returns c =
    changes-done (λ v. blank_row (length v.cells)) c.args.self.now c.loop-r.self c.args.first c.loop-r.r c.args.end
    c.loop-r.invariant.count (omega (arith, c.requires.in_part)) c.loop-r.invariant.changed
