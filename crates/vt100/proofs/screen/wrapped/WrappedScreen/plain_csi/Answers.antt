use Rattle.vt100.proofs.screen.wrapped.WrappedScreen.plain_csi.Goals as goal

pub returns-in-K : goal.returns-in-K
returns-in-K g c = rw c.in-K.is c.el_csi.ensures

pub returns-in-H : goal.returns-in-H
returns-in-H g c = rw c.in-H.is c.cup_csi.ensures
