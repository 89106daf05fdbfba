use Rattle.vt100.proofs.EventLemmas.{does_change}
use Rattle.vt100.proofs.screen.wrapped.WrappedScreen.cup_csi.Goals as goal

pub returns-in-Some : goal.returns-in-Some
returns-in-Some g c =
    let n = c.in-Some.ensures in
    does_change (rw n.col at (rw n.row at c.cup.ensures))
