use Rattle.vt100.proofs.ShownLemmas.{differences-lead}
use Rattle.vt100.proofs.laws.differences_lead.Goals as goal

pub returns : goal.returns
returns c = differences-lead
