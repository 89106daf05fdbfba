use Rattle.row_drawing.proofs.RowStart.{difference-leads}
use Rattle.row_drawing.proofs.laws.differences_lead.Goals as goal

pub returns : goal.returns
returns c = difference-leads
