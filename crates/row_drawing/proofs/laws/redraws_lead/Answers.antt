use Rattle.row_drawing.proofs.RowRedraw.{redraw-leads}
use Rattle.row_drawing.proofs.laws.redraws_lead.Goals as goal

pub returns : goal.returns
returns c = redraw-leads
