use Rattle.relay_streams.proofs.FarLemmas.{far-shown}
use Rattle.relay_streams.proofs.laws.far_views_show.Goals as goal

pub returns : goal.returns
returns c = far-shown
