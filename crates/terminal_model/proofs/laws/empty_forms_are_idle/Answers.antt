use Rattle.terminal_model.proofs.FormLemmas.{form-idle}
use Rattle.terminal_model.proofs.laws.empty_forms_are_idle.Goals as goal

pub returns : goal.returns
returns c = form-idle
