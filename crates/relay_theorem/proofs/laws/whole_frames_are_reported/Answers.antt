use Rattle.relay_theorem.proofs.DrawnLemmas.{wholes-reported, wholes-match}
use Rattle.relay_theorem.proofs.laws.whole_frames_are_reported.Goals as goal

pub returns-clause-answered : goal.returns-clause-answered
returns-clause-answered c = wholes-reported

pub returns-clause-whole : goal.returns-clause-whole
returns-clause-whole c = wholes-match
