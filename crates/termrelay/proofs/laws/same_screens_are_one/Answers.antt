use Rattle.termrelay.proofs.SameLemmas.{same-one}
use Rattle.termrelay.proofs.ShownLemmas.{one-same}
use Rattle.termrelay.proofs.laws.same_screens_are_one.Goals as goal

pub returns : goal.returns
returns c = record { one = same-one; same = one-same }
