use Rattle.relay_theorem.proofs.HeadlineLemmas.{wholes-shown}
use Rattle.relay_theorem.proofs.laws.whole_frames_are_shown.Goals as goal

pub returns : goal.returns
returns c = wholes-shown
