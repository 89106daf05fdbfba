use Rattle.forms_read.proofs.ReadForms.{list-read}
use Rattle.forms_read.proofs.laws.lists_are_read.Goals as goal

pub returns : goal.returns
returns c = list-read
