use Rattle.screen_view_laws.proofs.Agreeing.{written_form-agreed, feed-agreed}
use Rattle.screen_view_laws.proofs.laws.written_forms_are_agreed_on.Goals as goal

pub returns-clause-states : goal.returns-clause-states
returns-clause-states c = written_form-agreed

pub returns-clause-parsers : goal.returns-clause-parsers
returns-clause-parsers c = feed-agreed
