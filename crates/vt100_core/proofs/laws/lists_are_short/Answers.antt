use Rattle.vt100_core.proofs.ShortLists.{grid-short}
use Rattle.vt100_core.proofs.laws.lists_are_short.Goals as goal

pub returns : goal.returns
returns c = grid-short
