use Rattle.vt100.proofs.ShownLemmas.{screen-drawable}
use Rattle.vt100.proofs.laws.screens_are_drawable.Goals as goal

pub returns : goal.returns
returns c = screen-drawable
