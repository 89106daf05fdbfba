use Rattle.std.proofs.Common.{sym, ap, ◌==◌}
use Rattle.vte_core.proofs.Stores.{total-store}
use Rattle.vte_core.proofs.params.Params.is_empty.Goals as goal

pub returns : goal.returns
returns c = ap (λ n. n == 0) (sym (total-store _ _ _ _ _ c.self.invariant.0 c.self.view_is))
