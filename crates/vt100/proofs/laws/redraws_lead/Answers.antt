use Rattle.vt100.proofs.ShownLemmas.{redraws-lead}
use Rattle.vt100.proofs.laws.redraws_lead.Goals as goal

pub returns : goal.returns
returns c = redraws-lead
