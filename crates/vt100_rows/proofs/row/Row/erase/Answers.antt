use Rattle.std.proofs.Common.{arith, ◌+◌}
use Rattle.std.proofs.lemmas.Grind.{common_steps}
use Rattle.vt100_rows.specs.Row.{wiped_row}
use Rattle.vt100_rows.proofs.RowLemmas.{IsRow-wiped}
use Rattle.vt100_rows.proofs.BlankLemmas.{fields-any}
use Rattle.vt100_rows.proofs.row.Row.erase.Goals as goal

pub invariant_of-self : goal.invariant_of-self
invariant_of-self c =
    fields-any _ _ (wiped_row c.args.self.now c.args.i (c.args.i + 1) c.args.attrs) (grind (arith, common_steps))
    (IsRow-wiped c.args.self.now c.args.i (c.args.i + 1) c.args.attrs (rw (← c.self.view_is) c.self.invariant.row)
    (omega (arith, c.requires)))
