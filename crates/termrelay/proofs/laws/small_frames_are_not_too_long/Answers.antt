use Rattle.termrelay.proofs.AnswerLemmas.{small-fits}
use Rattle.termrelay.proofs.laws.small_frames_are_not_too_long.Goals as goal

pub returns : goal.returns
returns c = small-fits
