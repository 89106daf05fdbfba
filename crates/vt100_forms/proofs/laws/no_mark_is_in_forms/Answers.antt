use Rattle.vt100_forms.proofs.Marks.{no_mark}
use Rattle.vt100_forms.proofs.laws.no_mark_is_in_forms.Goals as goal

pub returns : goal.returns
returns c = no_mark
