use Rattle.relay_theorem.proofs.ServesLemmas.{runs-follow}
use Rattle.relay_theorem.proofs.laws.runs_have_histories.Goals as goal

pub returns : goal.returns
returns c = runs-follow
