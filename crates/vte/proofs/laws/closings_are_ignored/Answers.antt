use Rattle.vte.proofs.ClosingLemmas.{filtered, ignored}
use Rattle.vte.proofs.laws.closings_are_ignored.Goals as goal

pub returns-clause-filtered : goal.returns-clause-filtered
returns-clause-filtered g c = filtered

pub returns-clause-ignored : goal.returns-clause-ignored
returns-clause-ignored g c = ignored g.H.Handler.step
