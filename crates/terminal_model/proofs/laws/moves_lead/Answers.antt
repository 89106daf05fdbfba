use Rattle.terminal_model.proofs.FormLemmas.{moves-lead}
use Rattle.terminal_model.proofs.laws.moves_lead.Goals as goal

pub returns : goal.returns
returns c = moves-lead
