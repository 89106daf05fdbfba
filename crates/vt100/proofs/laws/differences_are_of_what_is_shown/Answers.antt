use Rattle.vt100.proofs.ShownLemmas.{difference-of_shown}
use Rattle.vt100.proofs.laws.differences_are_of_what_is_shown.Goals as goal

pub returns : goal.returns
returns c = difference-of_shown
