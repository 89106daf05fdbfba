use Rattle.terminal_model.proofs.FormLemmas.{paths-join}
use Rattle.terminal_model.proofs.laws.paths_join.Goals as goal

pub returns : goal.returns
returns c = paths-join
