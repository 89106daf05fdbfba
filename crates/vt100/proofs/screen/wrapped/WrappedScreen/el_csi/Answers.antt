use Rattle.vt100.proofs.EventLemmas.{does_counts}
use Rattle.vt100.proofs.screen.wrapped.WrappedScreen.el_csi.Goals as goal

pub returns : goal.returns
returns g c =
    does_counts _ c.requires (rw c.canonicalize_params_1.ensures at c.el-unhandled.ensures) c.unhandled_groups.ensures
