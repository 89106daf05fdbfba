use Rattle.vt100_forms.proofs.AttrsLemmas.{setters_keep_proper}
use Rattle.vt100_forms.proofs.laws.setters_keep_proper.Goals as goal

pub returns : goal.returns
returns c = setters_keep_proper
