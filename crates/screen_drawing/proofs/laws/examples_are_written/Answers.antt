use Rattle.screen_drawing.proofs.Examples.{examples}
use Rattle.screen_drawing.proofs.laws.examples_are_written.Goals as goal

pub returns : goal.returns
returns c = examples
