use Rattle.jeihpal_c.proofs.Words.{on_some}
use Rattle.jeihpal_c.proofs.hub.jeihpal_hub_resize_within.Goals as goal

pub returns-in-Some : goal.returns-in-Some
returns-in-Some c = on_some _ _ _ _ _ _ c.resize_within.type_inv c.get_mut.ensures.held c.in-Some.is
    c.resize_within.ensures
