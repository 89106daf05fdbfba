use Rattle.vt100_rows.proofs.DrawnRows.{row-drawn}
use Rattle.vt100_rows.proofs.laws.rows_are_drawn.Goals as goal

pub returns : goal.returns
returns c = row-drawn
