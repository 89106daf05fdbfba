use Rattle.vte_core.proofs.OscLemmas.{reads-nothing}
use Rattle.vte_core.proofs.osc_data.OscData.clear.Goals as goal

pub returns : goal.returns
returns g c = reads-nothing g.row.N _ c.clear.ensures c.clear-2.ensures
