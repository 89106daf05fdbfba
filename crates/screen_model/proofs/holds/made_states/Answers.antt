-- Answers for holds::made_states.
use Rattle.screen_model.proofs.MadeLemmas.{makes-states}
use Rattle.screen_model.proofs.holds.made_states.Goals as goal

pub returns : goal.returns
returns c = makes-states
