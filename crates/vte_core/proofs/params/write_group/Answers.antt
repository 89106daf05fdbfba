use Rattle.std.proofs.Common.{arith}
use Rattle.std.proofs.lemmas.Grind.{common_steps}
use Rattle.vte_core.proofs.params.write_group.Goals as goal

pub loop-number-preserved : goal.loop-number-preserved
loop-number-preserved g c = grind (arith, common_steps)

pub returns-after-loop-number : goal.returns-after-loop-number
returns-after-loop-number g c = grind (arith, common_steps)
