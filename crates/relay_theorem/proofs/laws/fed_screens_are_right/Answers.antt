use Rattle.relay_theorem.proofs.TreeLemmas.{screens-right, hubs-right}
use Rattle.relay_theorem.proofs.laws.fed_screens_are_right.Goals as goal

pub returns-clause-screens : goal.returns-clause-screens
returns-clause-screens c = screens-right

pub returns-clause-hubs : goal.returns-clause-hubs
returns-clause-hubs c = hubs-right
