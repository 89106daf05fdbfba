use Rattle.jeihpal_c.proofs.Words.{on_some}
use Rattle.jeihpal_c.proofs.screen.jeihpal_screen_tell.Goals as goal

pub returns-in-Some : goal.returns-in-Some
returns-in-Some c = on_some _ _ _ _ _ _ c.tell.type_inv c.get_mut.ensures.held c.in-Some.is c.tell.ensures
