use Rattle.relay_theorem.proofs.HistoryLemmas.{sessions-reported}
use Rattle.relay_theorem.proofs.laws.sessions_are_reported.Goals as goal

pub returns : goal.returns
returns c = sessions-reported
