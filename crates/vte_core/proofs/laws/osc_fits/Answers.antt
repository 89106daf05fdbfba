use Rattle.vte_core.proofs.AddedLemmas.{added-fits}
use Rattle.vte_core.proofs.laws.osc_fits.Goals as goal

pub returns : goal.returns
returns c = added-fits
