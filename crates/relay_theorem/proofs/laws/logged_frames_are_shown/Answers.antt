use Rattle.relay_theorem.proofs.LoggedLemmas.{logged-shown}
use Rattle.relay_theorem.proofs.laws.logged_frames_are_shown.Goals as goal

pub returns : goal.returns
returns c = logged-shown
