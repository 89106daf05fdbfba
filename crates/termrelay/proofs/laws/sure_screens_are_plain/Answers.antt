use Rattle.termrelay.proofs.SureLemmas.{sure-plain}
use Rattle.termrelay.proofs.laws.sure_screens_are_plain.Goals as goal

pub returns : goal.returns
returns c = sure-plain
