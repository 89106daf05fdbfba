use Rattle.termrelay.proofs.WholeLemmas.{whole-leads, whole-sets_modes, whole-sent}
use Rattle.termrelay.proofs.laws.whole_frames_lead.Goals as goal

pub returns-clause-lead : goal.returns-clause-lead
returns-clause-lead c = whole-leads

pub returns-clause-modes : goal.returns-clause-modes
returns-clause-modes c = whole-sets_modes

pub returns-clause-sent : goal.returns-clause-sent
returns-clause-sent c = whole-sent
