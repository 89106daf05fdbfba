use Rattle.relay_theorem.proofs.HeadlineLemmas.{none-torn}
use Rattle.relay_theorem.proofs.laws.no_frame_is_torn.Goals as goal

pub returns : goal.returns
returns c = none-torn
