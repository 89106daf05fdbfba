use Rattle.screen_view_laws.proofs.PlainStates.{plain-read}
use Rattle.screen_view_laws.proofs.laws.plain_states_are_read.Goals as goal

pub returns : goal.returns
returns c = plain-read
