use Rattle.vt100_forms.proofs.Lengths.{length-moves}
use Rattle.vt100_forms.proofs.laws.moves_are_short.Goals as goal

pub returns : goal.returns
returns c = length-moves
