use Rattle.vt100.proofs.VisibleCopies.{visible-same}
use Rattle.vt100.proofs.laws.visible_copies_show_the_same.Goals as goal

pub returns : goal.returns
returns c = visible-same
