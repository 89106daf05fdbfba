use Rattle.vt100.proofs.PlayLemmas.{feeds_join, feeds_nothing, acts_follow}
use Rattle.vt100.proofs.laws.feeds_are_joined.Goals as goal

pub returns : goal.returns
returns c = record { joined = feeds_join; nothing = feeds_nothing; after = acts_follow }
