use Rattle.forms_read.proofs.Calling.{form-called}
use Rattle.forms_read.proofs.laws.forms_call.Goals as goal

pub returns : goal.returns
returns c = form-called
