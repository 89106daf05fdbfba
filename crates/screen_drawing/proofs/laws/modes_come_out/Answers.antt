use Rattle.screen_drawing.proofs.Texts.{modes-come_out}
use Rattle.screen_drawing.proofs.laws.modes_come_out.Goals as goal

pub returns : goal.returns
returns c = modes-come_out
