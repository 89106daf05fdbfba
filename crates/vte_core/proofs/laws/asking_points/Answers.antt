use Rattle.vte_core.proofs.AskLemmas.{ends-asked, sequences-asked, runs-unasked}
use Rattle.vte_core.proofs.laws.asking_points.Goals as goal

pub returns-clause-ends : goal.returns-clause-ends
returns-clause-ends c = ends-asked

pub returns-clause-sequences : goal.returns-clause-sequences
returns-clause-sequences c = sequences-asked

pub returns-clause-runs : goal.returns-clause-runs
returns-clause-runs c = runs-unasked
