use Rattle.vt100_forms.proofs.AttrsLemmas.{change-leads}
use Rattle.vt100_forms.proofs.laws.changes_lead.Goals as goal

pub returns : goal.returns
returns c = change-leads
