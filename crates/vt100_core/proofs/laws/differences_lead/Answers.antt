use Rattle.vt100_core.proofs.PictureWriters.{differing-leads}
use Rattle.vt100_core.proofs.laws.differences_lead.Goals as goal

pub returns : goal.returns
returns c = differing-leads
