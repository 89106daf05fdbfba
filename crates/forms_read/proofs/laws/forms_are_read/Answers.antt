use Rattle.forms_read.proofs.ReadForms.{form-read}
use Rattle.forms_read.proofs.laws.forms_are_read.Goals as goal

pub returns : goal.returns
returns c = form-read
