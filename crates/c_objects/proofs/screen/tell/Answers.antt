use Rattle.c_objects.proofs.Did.{screen_did}
use Rattle.c_objects.specs.Screens.{Tells}
use Rattle.c_objects.proofs.screen.tell.Goals as goal

pub returns-in-Screen : goal.returns-in-Screen
returns-in-Screen c =
    screen_did (Tells c.args.unknown c.args.rows) _ _ _ _ c.tell_marked.type_inv c.in-Screen.is c.tell_marked.ensures
