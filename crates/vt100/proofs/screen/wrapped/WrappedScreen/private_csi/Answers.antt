use Rattle.vt100.proofs.EventLemmas.{private_does, does_counts, does_parts}
use Rattle.vt100.proofs.screen.wrapped.WrappedScreen.private_csi.Goals as goal

pub returns-in-J : goal.returns-in-J
returns-in-J g c = private_does _ _ c.in-J.is (does_counts _ c.requires
    (rw c.canonicalize_params_1.ensures at c.decsed-unhandled.ensures) c.unhandled_groups.ensures)

pub returns-in-K : goal.returns-in-K
returns-in-K g c = private_does _ _ c.in-K.is (does_counts _ c.requires
    (rw c.canonicalize_params_1-in-K.ensures at c.decsel-unhandled.ensures) c.unhandled_groups-in-K.ensures)

pub returns-in-l : goal.returns-in-l
returns-in-l g c = private_does _ _ c.in-l.is
    (does_counts _ c.requires c.decrst-unhandled.ensures c.unhandled_groups-in-l.ensures)

pub returns-in-Ok : goal.returns-in-Ok
returns-in-Ok g c = private_does _ _ c.in-h.is
    (does_parts _ c.requires c.in-Ok.ensures.tries c.unhandled_groups-in-Ok.ensures)
