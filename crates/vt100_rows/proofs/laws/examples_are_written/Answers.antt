use Rattle.vt100_rows.proofs.Examples.{examples}
use Rattle.vt100_rows.proofs.laws.examples_are_written.Goals as goal

pub returns : goal.returns
returns c = examples
