use Rattle.std.proofs.Common.{arith}
use Rattle.std.proofs.lemmas.Grind.{common_steps}
use Rattle.vt100_rows.specs.Row.{trimmed}
use Rattle.vt100_rows.proofs.TrimLemmas.{IsRow-trimmed}
use Rattle.vt100_rows.proofs.BlankLemmas.{fields-any}
use Rattle.vt100_rows.proofs.row.Row.trimmed.Goals as goal

pub invariant_of-result : goal.invariant_of-result
invariant_of-result c =
    fields-any _ _ (trimmed c.args.self.now) (grind (arith, common_steps))
    (IsRow-trimmed c.args.self.now (rw (← c.self.view_is) c.self.invariant.row))
