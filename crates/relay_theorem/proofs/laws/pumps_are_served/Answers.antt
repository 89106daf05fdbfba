use Rattle.relay_theorem.proofs.ServesLemmas.{pumps-served}
use Rattle.relay_theorem.proofs.laws.pumps_are_served.Goals as goal

pub returns : goal.returns
returns g c = pumps-served g.row.T.Denot g.T.ByteSink.takes
