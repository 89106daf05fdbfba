use Rattle.screen_drawing.proofs.Modes.{modes-set}
use Rattle.screen_drawing.proofs.laws.modes_are_set.Goals as goal

pub returns : goal.returns
returns c = modes-set
