use Rattle.screen_drawing.proofs.LocalRows.{rows-local}
use Rattle.screen_drawing.proofs.laws.differences_of_rows_are_local.Goals as goal

pub returns : goal.returns
returns c = rows-local
