use Rattle.relay_streams.proofs.RelayedLemmas.{relayed-shown}
use Rattle.relay_streams.proofs.laws.relayed_is_shown.Goals as goal

pub returns : goal.returns
returns c = relayed-shown
