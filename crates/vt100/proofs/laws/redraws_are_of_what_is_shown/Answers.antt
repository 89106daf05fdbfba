use Rattle.vt100.proofs.ShownLemmas.{redraw-of_shown}
use Rattle.vt100.proofs.laws.redraws_are_of_what_is_shown.Goals as goal

pub returns : goal.returns
returns c = redraw-of_shown
