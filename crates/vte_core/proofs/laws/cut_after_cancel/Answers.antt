use Rattle.std.proofs.Common.{refl}
use Rattle.vte_core.proofs.LawLemmas.{abort-cut}
use Rattle.vte_core.proofs.laws.cut_after_cancel.Goals as goal

pub returns-clause-can : goal.returns-clause-can
returns-clause-can c = abort-cut 0x18 refl

pub returns-clause-sub : goal.returns-clause-sub
returns-clause-sub c = abort-cut 0x1A refl
