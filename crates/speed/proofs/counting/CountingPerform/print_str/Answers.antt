use Rattle.speed.proofs.Counts.{counts_all}
use Rattle.speed.proofs.counting.CountingPerform.print_str.Goals as goal

pub returns : goal.returns
returns c = counts_all _ _ _
