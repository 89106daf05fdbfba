use Rattle.termrelay.proofs.FrameLengths.{frame-short}
use Rattle.termrelay.proofs.laws.frames_are_short.Goals as goal

pub returns : goal.returns
returns c = frame-short
