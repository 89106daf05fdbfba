use Rattle.screen_drawing.proofs.LocalExamples.{examples-touch}
use Rattle.screen_drawing.proofs.laws.examples_touch_few_cells.Goals as goal

pub returns : goal.returns
returns c = examples-touch
