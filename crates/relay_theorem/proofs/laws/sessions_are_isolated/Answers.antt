use Rattle.relay_theorem.proofs.IsolationLemmas.{sessions-isolated, logged-isolated}
use Rattle.relay_theorem.proofs.laws.sessions_are_isolated.Goals as goal

pub returns-clause-reported : goal.returns-clause-reported
returns-clause-reported c = sessions-isolated

pub returns-clause-logged : goal.returns-clause-logged
returns-clause-logged c = logged-isolated
