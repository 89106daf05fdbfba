use Rattle.screen_drawing.proofs.Screens.{chain-leads}
use Rattle.screen_drawing.proofs.laws.chains_lead.Goals as goal

pub returns : goal.returns
returns c = chain-leads
