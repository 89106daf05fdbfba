use Rattle.termview.proofs.FramedForms.{written_form-parsed, written_form-taken}
use Rattle.termview.proofs.laws.written_forms_are_read.Goals as goal

pub returns-clause-pieces : goal.returns-clause-pieces
returns-clause-pieces g c = written_form-parsed

pub returns-clause-views : goal.returns-clause-views
returns-clause-views g c = written_form-taken g.T.Timeout.ticking
