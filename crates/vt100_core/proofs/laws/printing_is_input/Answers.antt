use Rattle.vt100_core.proofs.InputLemmas.{printing-is}
use Rattle.vt100_core.proofs.laws.printing_is_input.Goals as goal

pub returns : goal.returns
returns c = printing-is
