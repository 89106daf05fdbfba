use Rattle.screen_drawing.proofs.Texts.{texts-plain}
use Rattle.screen_drawing.proofs.laws.texts_are_plain.Goals as goal

pub returns : goal.returns
returns c = texts-plain
