use Rattle.relay_theorem.proofs.HeadlineLemmas.{texts-frames}
use Rattle.relay_theorem.proofs.laws.texts_are_frames.Goals as goal

pub returns : goal.returns
returns c = texts-frames
