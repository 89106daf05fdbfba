use Rattle.forms_read.proofs.Stepping.{form_is_stepped, list_is_stepped, written_form_is_stepped}
use Rattle.forms_read.proofs.laws.terminals_read_forms.Goals as goal

pub returns-clause-forms : goal.returns-clause-forms
returns-clause-forms c = form_is_stepped

pub returns-clause-lists : goal.returns-clause-lists
returns-clause-lists c = list_is_stepped

pub returns-clause-written_forms : goal.returns-clause-written_forms
returns-clause-written_forms c = written_form_is_stepped
