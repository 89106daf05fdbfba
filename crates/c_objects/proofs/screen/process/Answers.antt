use Rattle.c_objects.proofs.Did.{screen_did}
use Rattle.c_objects.specs.Screens.{Processes}
use Rattle.c_objects.proofs.screen.process.Goals as goal

pub returns-in-Screen : goal.returns-in-Screen
returns-in-Screen c =
    screen_did (Processes c.args.bytes.now) _ _ _ _ c.process_marked.type_inv c.in-Screen.is c.process_marked.ensures
