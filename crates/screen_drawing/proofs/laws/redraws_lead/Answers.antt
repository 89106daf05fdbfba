use Rattle.screen_drawing.proofs.Screens.{redraw_leads}
use Rattle.screen_drawing.proofs.laws.redraws_lead.Goals as goal

pub returns : goal.returns
returns c = redraw_leads
