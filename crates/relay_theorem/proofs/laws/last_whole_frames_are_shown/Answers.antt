use Rattle.relay_theorem.proofs.HeadlineLemmas.{last-shown}
use Rattle.relay_theorem.proofs.laws.last_whole_frames_are_shown.Goals as goal

pub returns : goal.returns
returns c = last-shown
