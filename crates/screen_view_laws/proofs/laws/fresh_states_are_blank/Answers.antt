use Rattle.screen_view_laws.proofs.FreshStates.{fresh-blank}
use Rattle.screen_view_laws.proofs.laws.fresh_states_are_blank.Goals as goal

pub returns : goal.returns
returns c = fresh-blank
