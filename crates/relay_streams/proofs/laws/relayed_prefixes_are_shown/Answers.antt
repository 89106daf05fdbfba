use Rattle.relay_streams.proofs.SessionLemmas.{prefixes-shown}
use Rattle.relay_streams.proofs.laws.relayed_prefixes_are_shown.Goals as goal

pub returns : goal.returns
returns c = prefixes-shown
