use Rattle.termrelay.specs.Hub.{as_kept}
use Rattle.relay_theorem.specs.History.{as_reported}
use Rattle.relay_theorem.proofs.ServesLemmas.{pumps-take}
use Rattle.relay_theorem.proofs.laws.pumps_take_as_reported.Goals as goal

pub returns-clause-kept : goal.returns-clause-kept
returns-clause-kept c = pumps-take as_kept

pub returns-clause-reported : goal.returns-clause-reported
returns-clause-reported c = pumps-take as_reported
