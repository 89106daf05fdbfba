use Rattle.screen_drawing.proofs.Screens.{later-redraw_leads}
use Rattle.screen_drawing.proofs.laws.later_redraws_lead.Goals as goal

pub returns : goal.returns
returns c = later-redraw_leads
