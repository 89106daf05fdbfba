use Rattle.vt100_rows.proofs.DrawnRows.{difference-drawn}
use Rattle.vt100_rows.proofs.laws.differences_are_drawn.Goals as goal

pub returns : goal.returns
returns c = difference-drawn
