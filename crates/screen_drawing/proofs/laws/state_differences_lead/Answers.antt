use Rattle.screen_drawing.proofs.Screens.{state-difference_leads}
use Rattle.screen_drawing.proofs.laws.state_differences_lead.Goals as goal

pub returns : goal.returns
returns c = state-difference_leads
