use Rattle.vt100.proofs.RunLemmas.{draws_run}
use Rattle.vt100.proofs.screen.reported.print_times.Goals as goal

pub returns : goal.returns
returns g c =
    let e = c.print_times.ensures in
    draws_run g.CB.Callbacks.scrolls _ _ _ e.grid e.sink e.begun e.limits e.keeps_none e.stays e.allocated
