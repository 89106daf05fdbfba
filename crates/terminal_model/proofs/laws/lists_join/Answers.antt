use Rattle.terminal_model.proofs.FormLemmas.{run-joined}
use Rattle.terminal_model.proofs.laws.lists_join.Goals as goal

pub returns : goal.returns
returns c = run-joined
