use Rattle.terminal_model.proofs.Examples.{examples-hold}
use Rattle.terminal_model.proofs.laws.examples_hold.Goals as goal

pub returns : goal.returns
returns c = examples-hold
