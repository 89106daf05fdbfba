use Rattle.std.proofs.Common.{sym, arith}
use Rattle.vte_core.proofs.Stores.{total-store}
use Rattle.vte_core.proofs.params.Params.len.Goals as goal

pub returns-clause-value : goal.returns-clause-value
returns-clause-value c = sym (total-store _ _ _ _ _ c.self.invariant.0 c.self.view_is)

pub returns-clause-few : goal.returns-clause-few
returns-clause-few c = omega (arith, c.self.invariant.0.1, total-store _ _ _ _ _ c.self.invariant.0 c.self.view_is)
