use Rattle.relay_theorem.proofs.OneHistory.{history-is-one}
use Rattle.relay_theorem.proofs.laws.histories_are_one.Goals as goal

pub returns : goal.returns
returns c = history-is-one
