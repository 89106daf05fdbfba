use Rattle.terminal_model.proofs.TermLemmas.{IsTerm-apply}
use Rattle.terminal_model.proofs.laws.forms_keep_terminals.Goals as goal

pub returns : goal.returns
returns c = IsTerm-apply
