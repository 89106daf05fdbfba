use Rattle.relay_streams.proofs.EndLemmas.{farewell-ends-all}
use Rattle.relay_streams.proofs.laws.farewell_ends_all.Goals as goal

pub returns : goal.returns
returns c = farewell-ends-all
