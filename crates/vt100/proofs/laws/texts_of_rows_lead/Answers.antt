use Rattle.vt100.proofs.RowTexts.{row-texts_lead}
use Rattle.vt100.proofs.laws.texts_of_rows_lead.Goals as goal

pub returns : goal.returns
returns c = row-texts_lead
