use Rattle.vt100.proofs.EventLemmas.{other_does, does_counts}
use Rattle.vt100.proofs.screen.wrapped.WrappedScreen.other_csi.Goals as goal

pub returns-in-J : goal.returns-in-J
returns-in-J g c = other_does _ _ c.in-J.is (does_counts _ c.requires
    (rw c.canonicalize_params_1.ensures at c.ed-unhandled.ensures) c.unhandled_groups.ensures)

pub returns-in-K : goal.returns-in-K
returns-in-K g c = rw c.in-K.is c.el_csi.ensures

pub returns-in-m : goal.returns-in-m
returns-in-m g c = rw c.in-m.is c.sgr_csi.ensures
