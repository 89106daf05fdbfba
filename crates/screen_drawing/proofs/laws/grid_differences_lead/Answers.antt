use Rattle.screen_drawing.proofs.Screens.{grid-difference_leads}
use Rattle.screen_drawing.proofs.laws.grid_differences_lead.Goals as goal

pub returns : goal.returns
returns c = grid-difference_leads
