use Rattle.vt100.proofs.ReceiveLemmas.{draws_all}
use Rattle.vt100.proofs.screen.reported.print.Goals as goal

pub returns-clause-drawn : goal.returns-clause-drawn
returns-clause-drawn g c =
    let e = c.print.ensures in
    draws_all g.CB.Callbacks.scrolls _ e.grid e.sink e.limits e.keeps_none e.stays e.allocated
