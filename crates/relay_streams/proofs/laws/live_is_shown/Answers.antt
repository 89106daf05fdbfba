use Rattle.relay_streams.proofs.RelayedLemmas.{live-shown}
use Rattle.relay_streams.proofs.laws.live_is_shown.Goals as goal

pub returns : goal.returns
returns c = live-shown
