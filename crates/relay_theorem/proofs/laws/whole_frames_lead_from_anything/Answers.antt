use Rattle.relay_theorem.proofs.WholeFrames.{wholes-lead, wholes-untorn, frames-end}
use Rattle.relay_theorem.proofs.laws.whole_frames_lead_from_anything.Goals as goal

pub returns-clause-shown : goal.returns-clause-shown
returns-clause-shown c = wholes-lead

pub returns-clause-untorn : goal.returns-clause-untorn
returns-clause-untorn c = wholes-untorn

pub returns-clause-ground : goal.returns-clause-ground
returns-clause-ground c = frames-end
