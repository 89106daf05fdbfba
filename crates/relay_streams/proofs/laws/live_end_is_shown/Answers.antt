use Rattle.relay_streams.proofs.EndLemmas.{live-end-shown}
use Rattle.relay_streams.proofs.laws.live_end_is_shown.Goals as goal

pub returns : goal.returns
returns c = live-end-shown
