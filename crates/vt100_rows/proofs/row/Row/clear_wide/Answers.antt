use Rattle.std.proofs.Common.{arith}
use Rattle.std.proofs.lemmas.Grind.{common_steps}
use Rattle.vt100_rows.specs.Row.{pair_cleared}
use Rattle.vt100_rows.proofs.RowLemmas.{IsRow-pair_cleared}
use Rattle.vt100_rows.proofs.BlankLemmas.{fields-any}
use Rattle.vt100_rows.proofs.row.Row.clear_wide.Goals as goal

pub invariant_of-self : goal.invariant_of-self
invariant_of-self c =
    fields-any _ _ (pair_cleared c.args.self.now c.args.col) (grind (arith, common_steps))
    (IsRow-pair_cleared c.args.self.now c.args.col (rw (← c.self.view_is) c.self.invariant.row))
