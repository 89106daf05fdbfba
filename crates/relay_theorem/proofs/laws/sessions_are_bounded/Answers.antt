use Rattle.relay_theorem.proofs.BoundLemmas.{sessions-bounded}
use Rattle.relay_theorem.proofs.laws.sessions_are_bounded.Goals as goal

pub returns : goal.returns
returns c = sessions-bounded
