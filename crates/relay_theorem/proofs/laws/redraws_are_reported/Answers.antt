use Rattle.relay_theorem.proofs.DrawnLemmas.{redraws-reported}
use Rattle.relay_theorem.proofs.GrowthLemmas.{stories-grow}
use Rattle.relay_theorem.proofs.LoggedRedraws.{run-redraws}
use Rattle.relay_theorem.proofs.laws.redraws_are_reported.Goals as goal

pub returns-clause-answered : goal.returns-clause-answered
returns-clause-answered c = redraws-reported

pub returns-clause-grows : goal.returns-clause-grows
returns-clause-grows c = stories-grow

pub returns-clause-run : goal.returns-clause-run
returns-clause-run c = run-redraws
