use Rattle.relay_streams.proofs.EndLemmas.{last-ends-settled, live-updates-shown}
use Rattle.relay_streams.proofs.laws.live_updates_are_shown.Goals as goal

pub returns-clause-shown : goal.returns-clause-shown
returns-clause-shown c = live-updates-shown

pub returns-clause-settled : goal.returns-clause-settled
returns-clause-settled c = last-ends-settled
