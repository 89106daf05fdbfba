use Rattle.std.proofs.Common.{◌∙◌, sym, ap}
use Rattle.vte_core.specs.Phases.{is_kept}
use Rattle.vte_core.proofs.PhaseLemmas.{well_formed-phase}
use Rattle.vte_core.proofs.header.Header.is_kept.Goals as goal

pub returns-clause-well_formed : goal.returns-clause-well_formed
returns-clause-well_formed c = λ h r. c.is_kept.ensures ∙ (ap is_kept r.phase ∙ sym (well_formed-phase h))
