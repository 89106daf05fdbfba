use Rattle.terminal_model.proofs.PlainText.{cell-sent}
use Rattle.terminal_model.proofs.laws.cells_are_sent.Goals as goal

pub returns : goal.returns
returns c = cell-sent
