use Rattle.vt100.proofs.PlayLemmas.{plays_events, feeds_make}
use Rattle.vt100.proofs.laws.events_are_played.Goals as goal

pub returns : goal.returns
returns c = record { played = plays_events; made = feeds_make }
