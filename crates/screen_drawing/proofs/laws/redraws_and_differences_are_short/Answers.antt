use Rattle.screen_drawing.proofs.Lengths.{each-short}
use Rattle.screen_drawing.proofs.laws.redraws_and_differences_are_short.Goals as goal

pub returns : goal.returns
returns c = each-short
