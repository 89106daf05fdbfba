use Rattle.recorded_screen.proofs.BeginLemmas.{stands_not}
use Rattle.recorded_screen.proofs.laws.earlier_screens_dont_stand.Goals as goal

pub returns : goal.returns
returns c = stands_not
