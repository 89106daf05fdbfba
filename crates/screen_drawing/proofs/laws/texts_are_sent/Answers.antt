use Rattle.screen_drawing.proofs.Texts.{texts-sent}
use Rattle.screen_drawing.proofs.laws.texts_are_sent.Goals as goal

pub returns : goal.returns
returns c = texts-sent
