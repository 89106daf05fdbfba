use Rattle.forms_read.proofs.Calling.{written_form-called}
use Rattle.forms_read.proofs.laws.written_forms_call.Goals as goal

pub returns : goal.returns
returns c = written_form-called
