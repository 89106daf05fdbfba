use Rattle.vte_core.proofs.LawLemmas.{esc-cut}
use Rattle.vte_core.proofs.QuietBytes.{esc-cuts_off}
use Rattle.vte_core.proofs.laws.cut_before_esc.Goals as goal

pub returns-clause-cut : goal.returns-clause-cut
returns-clause-cut c = esc-cut

pub returns-clause-ended : goal.returns-clause-ended
returns-clause-ended c = esc-cuts_off
