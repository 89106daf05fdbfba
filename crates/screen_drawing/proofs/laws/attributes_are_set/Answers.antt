use Rattle.screen_drawing.proofs.Modes.{attributes-set}
use Rattle.screen_drawing.proofs.laws.attributes_are_set.Goals as goal

pub returns : goal.returns
returns c = attributes-set
