use Rattle.row_drawing.proofs.Examples.{examples}
use Rattle.row_drawing.proofs.laws.examples_are_written.Goals as goal

pub returns : goal.returns
returns c = examples
