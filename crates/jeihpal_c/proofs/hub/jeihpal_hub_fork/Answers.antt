use Rattle.jeihpal_c.proofs.Words.{on_some}
use Rattle.jeihpal_c.proofs.hub.jeihpal_hub_fork.Goals as goal

pub returns-in-Some-clause-does : goal.returns-in-Some-clause-does
returns-in-Some-clause-does c = on_some _ _ _ _ _ _ c.fork.type_inv c.get_mut.ensures.held c.in-Some.is
    c.fork.ensures.forked
