use Rattle.relay_theorem.proofs.AloneLemmas.{sessions-alone}
use Rattle.relay_theorem.proofs.LoneLemmas.{lone-alike, logged-lone_alike}
use Rattle.relay_theorem.proofs.laws.sessions_stand_alone.Goals as goal

pub returns-clause-made : goal.returns-clause-made
returns-clause-made c = sessions-alone

pub returns-clause-alike : goal.returns-clause-alike
returns-clause-alike c = lone-alike

pub returns-clause-logged : goal.returns-clause-logged
returns-clause-logged c = logged-lone_alike
