use Rattle.relay_theorem.proofs.TreeLemmas.{trees-shown}
use Rattle.relay_theorem.proofs.laws.trees_are_shown.Goals as goal

pub returns : goal.returns
returns c = trees-shown
