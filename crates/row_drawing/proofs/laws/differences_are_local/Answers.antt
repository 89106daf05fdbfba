use Rattle.row_drawing.proofs.LocalCells.{difference-local}
use Rattle.row_drawing.proofs.laws.differences_are_local.Goals as goal

pub returns : goal.returns
returns c = difference-local
