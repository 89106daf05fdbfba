use Rattle.termview.proofs.WrittenForms.{written_form-shown}
use Rattle.termview.proofs.laws.written_forms_are_shown.Goals as goal

pub returns : goal.returns
returns c = written_form-shown
