use Rattle.termrelay.proofs.Marks.{frame-marked}
use Rattle.termrelay.proofs.laws.frames_are_marked.Goals as goal

pub returns : goal.returns
returns c = frame-marked
