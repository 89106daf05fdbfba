use Rattle.vt100.proofs.ReceiveLemmas.{draws_all}
use Rattle.vt100.proofs.screen.reported.scroll_up.Goals as goal

pub returns : goal.returns
returns g c =
    let e = c.scroll_up.ensures in
    draws_all g.CB.Callbacks.scrolls _ e.grid e.sink e.limits e.keeps_none e.stays e.allocated
