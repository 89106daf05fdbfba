use Rattle.std.proofs.Common.{◌≡◌, Err, rules}
use Rattle.vt100.proofs.ReceiveLemmas.{draws_all}
use Rattle.vt100.proofs.screen.reported.feed_line.Goals as goal

pub returns-in_err-row_inc_scroll : goal.returns-in_err-row_inc_scroll
returns-in_err-row_inc_scroll g c =
    let is : c.from_residual.result ≡ Err c.in_err-row_inc_scroll.field-0.0 = search rules in
    let e = c.in_err-row_inc_scroll.ensures in
    rw is (draws_all g.CB.Callbacks.scrolls _ e.grid e.sink e.limits e.keeps_none e.stays e.allocated)

pub returns : goal.returns
returns g c =
    let e = c.in_ok-row_inc_scroll.ensures in
    draws_all g.CB.Callbacks.scrolls _ e.grid e.sink e.limits e.keeps_none e.stays e.allocated
