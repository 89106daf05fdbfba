use Rattle.relay_theorem.proofs.ServesLemmas.{logs-follow}
use Rattle.relay_theorem.proofs.laws.logs_have_histories.Goals as goal

pub returns : goal.returns
returns c = logs-follow
