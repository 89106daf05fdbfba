use Rattle.vt100.proofs.ShortLists.{screen-short}
use Rattle.vt100.proofs.laws.lists_are_short.Goals as goal

pub returns : goal.returns
returns c = screen-short
