use Rattle.termview.proofs.LawLemmas.{whole_shown}
use Rattle.termview.proofs.laws.whole_frames_are_shown.Goals as goal

pub returns : goal.returns
returns c = whole_shown
