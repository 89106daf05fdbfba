use Rattle.vt100.proofs.CopyLemmas.{copies-same}
use Rattle.vt100.proofs.laws.copies_show_the_same.Goals as goal

pub returns : goal.returns
returns c = copies-same
