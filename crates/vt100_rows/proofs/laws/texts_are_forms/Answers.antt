use Rattle.vt100_rows.proofs.SentTexts.{texts-forms}
use Rattle.vt100_rows.proofs.laws.texts_are_forms.Goals as goal

pub returns : goal.returns
returns c = texts-forms
