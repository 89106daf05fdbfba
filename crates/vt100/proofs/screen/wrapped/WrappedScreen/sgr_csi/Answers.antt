use Rattle.vt100.proofs.EventLemmas.{does_counts}
use Rattle.vt100.proofs.screen.wrapped.WrappedScreen.sgr_csi.Goals as goal

pub returns : goal.returns
returns g c = does_counts _ c.requires c.sgr-unhandled.ensures c.unhandled_groups.ensures
