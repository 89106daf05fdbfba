use Rattle.vt100_forms.proofs.Marks.{marks_behind}
use Rattle.vt100_forms.proofs.laws.marks_stand_behind_forms.Goals as goal

pub returns : goal.returns
returns c = marks_behind
