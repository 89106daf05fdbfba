use Rattle.vte.proofs.ClosingLemmas.{all_ran}
use Rattle.vte.proofs.laws.calls_are_of_the_table.Goals as goal

pub returns : goal.returns
returns g c = all_ran g.T.Timeout.ticking
