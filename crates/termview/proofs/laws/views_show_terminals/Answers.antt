use Rattle.termview.proofs.KeptTerms.{calls-keep, streams-show}
use Rattle.termview.proofs.laws.views_show_terminals.Goals as goal

pub returns-clause-calls : goal.returns-clause-calls
returns-clause-calls c = calls-keep

pub returns-clause-streams : goal.returns-clause-streams
returns-clause-streams c = streams-show
