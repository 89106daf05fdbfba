use Rattle.terminal_model.proofs.PrintedCells.{cell-printed}
use Rattle.terminal_model.proofs.laws.cells_are_printed.Goals as goal

pub returns : goal.returns
returns c = cell-printed
