use Rattle.forms_read.proofs.SentTexts.{sent-printed, form-readable}
use Rattle.forms_read.proofs.laws.sent_texts_are_printed.Goals as goal

pub returns-clause-texts : goal.returns-clause-texts
returns-clause-texts c = sent-printed

pub returns-clause-forms : goal.returns-clause-forms
returns-clause-forms c = form-readable
