use Rattle.vt100_forms.proofs.Lengths.{length-change}
use Rattle.vt100_forms.proofs.laws.changes_are_short.Goals as goal

pub returns : goal.returns
returns c = length-change
