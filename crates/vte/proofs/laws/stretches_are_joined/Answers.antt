use Rattle.vte.proofs.HoldLemmas.{calls_from-append, last_of-append, opens_in-append, ticks_from-append}
use Rattle.vte.proofs.laws.stretches_are_joined.Goals as goal

pub returns-clause-calls : goal.returns-clause-calls
returns-clause-calls c = calls_from-append

pub returns-clause-printed : goal.returns-clause-printed
returns-clause-printed c = last_of-append

pub returns-clause-openings : goal.returns-clause-openings
returns-clause-openings c = opens_in-append

pub returns-clause-ticks : goal.returns-clause-ticks
returns-clause-ticks c = ticks_from-append
