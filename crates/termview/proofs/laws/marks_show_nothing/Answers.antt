use Rattle.termview.proofs.LawLemmas.{marks_show, bodies_show}
use Rattle.termview.proofs.laws.marks_show_nothing.Goals as goal

pub returns-clause-marks : goal.returns-clause-marks
returns-clause-marks c = marks_show

pub returns-clause-bodies : goal.returns-clause-bodies
returns-clause-bodies c = bodies_show
