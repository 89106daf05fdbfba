use Rattle.vte.proofs.AskLemmas.{asks_where_opened}
use Rattle.vte.proofs.OpeningLemmas.{opens_as_called, opens_as_all_called, opens_by_starts}
use Rattle.vte.proofs.laws.openings_are_called.Goals as goal

pub returns-clause-event : goal.returns-clause-event
returns-clause-event c = opens_as_called

pub returns-clause-events : goal.returns-clause-events
returns-clause-events c = opens_as_all_called

pub returns-clause-starts : goal.returns-clause-starts
returns-clause-starts c = opens_by_starts

pub returns-clause-asked : goal.returns-clause-asked
returns-clause-asked c = asks_where_opened
