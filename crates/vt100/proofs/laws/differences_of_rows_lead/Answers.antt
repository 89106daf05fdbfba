use Rattle.vt100.proofs.RowTexts.{row-differences_lead}
use Rattle.vt100.proofs.laws.differences_of_rows_lead.Goals as goal

pub returns : goal.returns
returns c = row-differences_lead
