use Rattle.vte.proofs.LawLemmas.{not_torn}
use Rattle.vte.proofs.laws.updates_are_never_torn.Goals as goal

pub returns : goal.returns
returns c = not_torn
