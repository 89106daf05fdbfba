use Rattle.std.proofs.Common.{sym, ap, arith, ◌==◌}
use Rattle.vte_core.proofs.Stores.{total-store}
use Rattle.vte_core.proofs.params.Params.is_full.Goals as goal

pub returns-clause-value : goal.returns-clause-value
returns-clause-value c = ap (λ n. n == 32) (sym (total-store _ _ _ _ _ c.self.invariant.0 c.self.view_is))

pub returns-clause-fits : goal.returns-clause-fits
returns-clause-fits c = omega (arith, c.self.invariant.0.1, total-store _ _ _ _ _ c.self.invariant.0 c.self.view_is)
