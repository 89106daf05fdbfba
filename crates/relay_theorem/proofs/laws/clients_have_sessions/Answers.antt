use Rattle.relay_theorem.proofs.HistoryLemmas.{clients-have-sessions}
use Rattle.relay_theorem.proofs.laws.clients_have_sessions.Goals as goal

pub returns : goal.returns
returns c = clients-have-sessions
