use Rattle.termrelay.proofs.FrameLemmas.{frame-leads}
use Rattle.termrelay.proofs.laws.frames_lead.Goals as goal

pub returns : goal.returns
returns c = frame-leads
