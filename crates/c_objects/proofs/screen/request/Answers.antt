use Rattle.c_objects.proofs.Did.{screen_did}
use Rattle.c_objects.specs.Screens.{TellsOldest}
use Rattle.c_objects.proofs.screen.request.Goals as goal

pub returns-in-Screen-clause-reported : goal.returns-in-Screen-clause-reported
returns-in-Screen-clause-reported c =
    screen_did (TellsOldest c.args.to.now c.tell_request.new.to c.tell_request.new.reported) _ _ _ _
    c.tell_request.type_inv
    c.in-Screen.is c.tell_request.ensures
