use Rattle.screen_drawing.proofs.Rows.{rows-difference_lead}
use Rattle.screen_drawing.proofs.laws.differences_of_rows_lead.Goals as goal

pub returns : goal.returns
returns c = rows-difference_lead
