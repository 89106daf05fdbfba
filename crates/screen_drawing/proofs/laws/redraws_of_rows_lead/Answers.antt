use Rattle.screen_drawing.proofs.Rows.{rows-redraw_lead}
use Rattle.screen_drawing.proofs.laws.redraws_of_rows_lead.Goals as goal

pub returns : goal.returns
returns c = rows-redraw_lead
