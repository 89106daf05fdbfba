use Rattle.std.proofs.Common.{arith}
use Rattle.std.proofs.lemmas.Grind.{common_steps}
use Rattle.vt100_rows.specs.Row.{cleared_row}
use Rattle.vt100_rows.proofs.RowLemmas.{IsRow-cleared}
use Rattle.vt100_rows.proofs.BlankLemmas.{fields-any}
use Rattle.vt100_rows.proofs.row.Row.clear.Goals as goal

pub invariant_of-self : goal.invariant_of-self
invariant_of-self c =
    fields-any _ _ (cleared_row c.args.self.now c.args.attrs) (grind (arith, common_steps))
    (IsRow-cleared c.args.self.now c.args.attrs (rw (← c.self.view_is) c.self.invariant.row))
