use Rattle.vt100_core.proofs.FormLists.{grid-sent, grid-forms}
use Rattle.vt100_core.proofs.laws.lists_are_of_forms.Goals as goal

pub returns-clause-sent : goal.returns-clause-sent
returns-clause-sent c = grid-sent

pub returns-clause-forms : goal.returns-clause-forms
returns-clause-forms c = grid-forms
