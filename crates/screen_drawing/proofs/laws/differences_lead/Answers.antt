use Rattle.screen_drawing.proofs.Screens.{difference_leads}
use Rattle.screen_drawing.proofs.laws.differences_lead.Goals as goal

pub returns : goal.returns
returns c = difference_leads
