use Rattle.row_drawing.proofs.Texts.{texts-drawn}
use Rattle.row_drawing.proofs.laws.texts_are_drawn.Goals as goal

pub returns : goal.returns
returns c = texts-drawn
