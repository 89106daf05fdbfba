use Rattle.termrelay.proofs.FrameLemmas.{frame-sets_modes}
use Rattle.termrelay.proofs.laws.frames_set_modes.Goals as goal

pub returns : goal.returns
returns c = frame-sets_modes
