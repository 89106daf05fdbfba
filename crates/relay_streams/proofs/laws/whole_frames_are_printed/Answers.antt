use Rattle.relay_streams.proofs.LawLemmas.{frames_printed}
use Rattle.relay_streams.proofs.laws.whole_frames_are_printed.Goals as goal

pub returns : goal.returns
returns c = frames_printed
