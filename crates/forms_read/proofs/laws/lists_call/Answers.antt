use Rattle.forms_read.proofs.Calling.{list-called}
use Rattle.forms_read.proofs.laws.lists_call.Goals as goal

pub returns : goal.returns
returns c = list-called
