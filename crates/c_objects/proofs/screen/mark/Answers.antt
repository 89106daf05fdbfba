use Rattle.c_objects.proofs.Did.{screen_did}
use Rattle.c_objects.specs.Screens.{Marks}
use Rattle.c_objects.proofs.screen.mark.Goals as goal

pub returns-in-Screen : goal.returns-in-Screen
returns-in-Screen c = screen_did Marks _ _ _ _ c.mark_as_now.type_inv c.in-Screen.is c.mark_as_now.ensures
