use Rattle.vte_core.proofs.AddedLemmas.{events-added, added-append}
use Rattle.vte_core.proofs.laws.beginnings.Goals as goal

pub returns-clause-kept : goal.returns-clause-kept
returns-clause-kept c = events-added

pub returns-clause-in_order : goal.returns-clause-in_order
returns-clause-in_order c = added-append
