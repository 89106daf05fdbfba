use Rattle.vte_core.proofs.OscLemmas.{reads-nothing}
use Rattle.vte_core.proofs.osc_data.OscData.new.Goals as goal

pub returns : goal.returns
returns g c = reads-nothing g.row.N _ c.new.ensures c.new-2.ensures
