use Rattle.vte.proofs.OutcomeLemmas.{takes-one_way}
use Rattle.vte.proofs.laws.outcomes_are_settled.Goals as goal

pub returns : goal.returns
returns c = takes-one_way
