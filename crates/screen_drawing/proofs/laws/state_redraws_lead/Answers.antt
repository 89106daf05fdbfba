use Rattle.screen_drawing.proofs.Screens.{state-redraw_leads}
use Rattle.screen_drawing.proofs.laws.state_redraws_lead.Goals as goal

pub returns : goal.returns
returns c = state-redraw_leads
