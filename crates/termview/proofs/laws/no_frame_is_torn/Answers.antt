use Rattle.termview.proofs.LawLemmas.{none_torn}
use Rattle.termview.proofs.laws.no_frame_is_torn.Goals as goal

pub returns : goal.returns
returns c = none_torn
