use Rattle.relay_theorem.proofs.LoggedLemmas.{logged-whole}
use Rattle.relay_theorem.proofs.laws.whole_logged_frames_are_shown.Goals as goal

pub returns : goal.returns
returns c = logged-whole
