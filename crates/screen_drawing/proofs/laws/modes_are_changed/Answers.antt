use Rattle.screen_drawing.proofs.Modes.{modes-changed}
use Rattle.screen_drawing.proofs.laws.modes_are_changed.Goals as goal

pub returns : goal.returns
returns c = modes-changed
