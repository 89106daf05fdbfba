use Rattle.charset_filter.proofs.laws.draws_events.Goals as goal
use Rattle.charset_filter.proofs.LawLemmas.{draws-events}

pub returns : goal.returns
returns c = draws-events
