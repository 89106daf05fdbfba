use Rattle.terminal_model.proofs.FormTexts.{form-sent, form-plain}
use Rattle.terminal_model.proofs.laws.forms_are_sent.Goals as goal

pub returns-clause-sent : goal.returns-clause-sent
returns-clause-sent c = form-sent

pub returns-clause-plain : goal.returns-clause-plain
returns-clause-plain c = form-plain
