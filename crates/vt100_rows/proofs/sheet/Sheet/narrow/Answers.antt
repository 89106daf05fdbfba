use Rattle.std.proofs.Common.{arith}
use Rattle.vt100_rows.specs.Row.{truncated}
use Rattle.vt100_rows.proofs.SheetLemmas.{changes-done}
use Rattle.vt100_rows.proofs.sheet.Sheet.narrow.Goals as goal

pub returns : goal.returns
returns c =
    changes-done (λ v. truncated v c.args.width) c.args.self.now c.loop-r.self 0 c.loop-r.r c.args.end
    c.loop-r.invariant.count (omega arith) c.loop-r.invariant.changed
