use Rattle.vt100_forms.proofs.AttrsLemmas.{setters_are_read}
use Rattle.vt100_forms.proofs.laws.setters_are_read.Goals as goal

pub returns : goal.returns
returns c = setters_are_read
