use Rattle.relay_theorem.proofs.DrawnLemmas.{redraw-shown, redraw-untorn}
use Rattle.relay_theorem.proofs.LoggedRedraws.{logged-redraws}
use Rattle.relay_theorem.proofs.laws.redrawn_frames_are_shown.Goals as goal

pub returns-clause-shown : goal.returns-clause-shown
returns-clause-shown c = redraw-shown

pub returns-clause-untorn : goal.returns-clause-untorn
returns-clause-untorn c = redraw-untorn

pub returns-clause-logged : goal.returns-clause-logged
returns-clause-logged c = logged-redraws
