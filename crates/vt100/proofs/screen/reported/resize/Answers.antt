use Rattle.vt100.proofs.ReceiveLemmas.{receives_all}
use Rattle.vt100.proofs.screen.reported.resize.Goals as goal

pub returns-clause-same : goal.returns-clause-same
returns-clause-same g c = (receives_all g.CB.Callbacks.scrolls _ _ _ c.set_size.ensures.sink).1

pub returns-clause-receives : goal.returns-clause-receives
returns-clause-receives g c = (receives_all g.CB.Callbacks.scrolls _ _ _ c.set_size.ensures.sink).0
