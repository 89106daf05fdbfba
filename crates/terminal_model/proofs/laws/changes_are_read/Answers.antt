use Rattle.terminal_model.proofs.FormLemmas.{change-read}
use Rattle.terminal_model.proofs.laws.changes_are_read.Goals as goal

pub returns : goal.returns
returns c = change-read
