use Rattle.speed.proofs.Counts.{counts_calls}
use Rattle.speed.proofs.counting.CountingHandler.input_str.Goals as goal

pub returns : goal.returns
returns c = counts_calls _ _ _
