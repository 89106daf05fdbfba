use Rattle.vt100.proofs.VisibleCopies.{visible-redraws_lead, visible-differences_lead}
use Rattle.vt100.proofs.laws.visible_copies_lead.Goals as goal

pub returns : goal.returns
returns c = record { redraws = visible-redraws_lead; differences = visible-differences_lead }
