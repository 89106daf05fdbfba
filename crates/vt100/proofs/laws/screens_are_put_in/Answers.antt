use Rattle.vt100.proofs.PlayLemmas.{put_in}
use Rattle.vt100.proofs.laws.screens_are_put_in.Goals as goal

pub returns : goal.returns
returns c = put_in
