use Rattle.vt100_core.proofs.PictureWriters.{redrawn-leads}
use Rattle.vt100_core.proofs.laws.redraws_lead.Goals as goal

pub returns : goal.returns
returns c = redrawn-leads
