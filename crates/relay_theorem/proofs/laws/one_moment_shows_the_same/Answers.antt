use Rattle.relay_theorem.proofs.HeadlineLemmas.{moments-same, moments-whole}
use Rattle.relay_theorem.proofs.laws.one_moment_shows_the_same.Goals as goal

pub returns-clause-pieces : goal.returns-clause-pieces
returns-clause-pieces c = moments-same

pub returns-clause-whole : goal.returns-clause-whole
returns-clause-whole c = moments-whole
