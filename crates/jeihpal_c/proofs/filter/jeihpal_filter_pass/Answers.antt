use Rattle.jeihpal_c.proofs.Words.{on_some}
use Rattle.jeihpal_c.proofs.filter.jeihpal_filter_pass.Goals as goal

pub returns-in-Some : goal.returns-in-Some
returns-in-Some c = on_some _ _ _ _ _ _ c.pass.type_inv c.get_mut.ensures.held c.in-Some.is c.pass.ensures
