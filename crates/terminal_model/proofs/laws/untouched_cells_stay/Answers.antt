use Rattle.terminal_model.proofs.TouchLemmas.{cell-untouched}
use Rattle.terminal_model.proofs.laws.untouched_cells_stay.Goals as goal

pub returns : goal.returns
returns c = cell-untouched
