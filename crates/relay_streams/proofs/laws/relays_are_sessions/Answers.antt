use Rattle.relay_streams.proofs.SessionLemmas.{relays-are-sessions, relays-are-pumped, relayed-are-one}
use Rattle.relay_streams.proofs.SessionLemmas.{relay-texts-are-one}
use Rattle.relay_streams.proofs.laws.relays_are_sessions.Goals as goal

pub returns-clause-is : goal.returns-clause-is
returns-clause-is c = relays-are-sessions

pub returns-clause-pumped : goal.returns-clause-pumped
returns-clause-pumped c = relays-are-pumped

pub returns-clause-frames : goal.returns-clause-frames
returns-clause-frames c = relayed-are-one

pub returns-clause-texts : goal.returns-clause-texts
returns-clause-texts c = relay-texts-are-one
