use Rattle.vt100_core.proofs.PictureWriters.{cursor-leads}
use Rattle.vt100_core.proofs.laws.cursors_lead.Goals as goal

pub returns : goal.returns
returns c = cursor-leads
