use Rattle.forms_read.proofs.Examples.{examples-hold}
use Rattle.forms_read.proofs.laws.examples_hold.Goals as goal

pub returns : goal.returns
returns c = examples-hold
