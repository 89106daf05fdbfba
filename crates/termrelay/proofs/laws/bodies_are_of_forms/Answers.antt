use Rattle.termrelay.proofs.BodyForms.{body-sent, body-forms}
use Rattle.termrelay.proofs.laws.bodies_are_of_forms.Goals as goal

pub returns-clause-sent : goal.returns-clause-sent
returns-clause-sent c = body-sent

pub returns-clause-forms : goal.returns-clause-forms
returns-clause-forms c = body-forms
