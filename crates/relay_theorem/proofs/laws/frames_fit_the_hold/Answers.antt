use Rattle.relay_theorem.proofs.BoundLemmas.{frames-fit, small-made}
use Rattle.relay_theorem.proofs.laws.frames_fit_the_hold.Goals as goal

pub returns-clause-fits : goal.returns-clause-fits
returns-clause-fits c = frames-fit

pub returns-clause-small : goal.returns-clause-small
returns-clause-small c = small-made
