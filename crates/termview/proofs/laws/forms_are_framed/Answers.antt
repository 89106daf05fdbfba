use Rattle.termview.proofs.FramedForms.{forms-framed, frame-opens, frame-finishes, frame-shows}
use Rattle.termview.proofs.laws.forms_are_framed.Goals as goal

pub returns-clause-frames : goal.returns-clause-frames
returns-clause-frames c = forms-framed

pub returns-clause-opens : goal.returns-clause-opens
returns-clause-opens c = frame-opens

pub returns-clause-finished : goal.returns-clause-finished
returns-clause-finished c = frame-finishes

pub returns-clause-shown : goal.returns-clause-shown
returns-clause-shown c = frame-shows
