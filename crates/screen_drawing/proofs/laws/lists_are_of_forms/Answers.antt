use Rattle.screen_drawing.proofs.SmallScreens.{lists-sent, lists-forms}
use Rattle.screen_drawing.proofs.laws.lists_are_of_forms.Goals as goal

pub returns-clause-sent : goal.returns-clause-sent
returns-clause-sent c = lists-sent

pub returns-clause-forms : goal.returns-clause-forms
returns-clause-forms c = lists-forms
