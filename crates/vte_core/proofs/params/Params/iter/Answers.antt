use Rattle.vte_core.proofs.Stores.{groups_few}
use Rattle.vte_core.proofs.params.Params.iter.Goals as goal

pub returns-clause-few : goal.returns-clause-few
returns-clause-few c = groups_few _ _ _ _ _ c.self.invariant.0 c.self.view_is
