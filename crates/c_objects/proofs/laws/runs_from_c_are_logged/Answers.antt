use Rattle.c_objects.proofs.RunLemmas.{runs-logged}
use Rattle.c_objects.proofs.laws.runs_from_c_are_logged.Goals as goal

pub returns : goal.returns
returns c = runs-logged
