use Rattle.screen_drawing.proofs.Screens.{grid-redraw_leads}
use Rattle.screen_drawing.proofs.laws.grid_redraws_lead.Goals as goal

pub returns : goal.returns
returns c = grid-redraw_leads
