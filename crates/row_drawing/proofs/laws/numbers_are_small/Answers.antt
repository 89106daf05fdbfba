use Rattle.row_drawing.proofs.SmallRows.{numbers-small}
use Rattle.row_drawing.proofs.laws.numbers_are_small.Goals as goal

pub returns : goal.returns
returns c = numbers-small
