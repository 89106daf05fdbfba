use Rattle.row_drawing.proofs.KeptRows.{difference-kept}
use Rattle.row_drawing.proofs.laws.kept_rows_are_left.Goals as goal

pub returns : goal.returns
returns c = difference-kept
