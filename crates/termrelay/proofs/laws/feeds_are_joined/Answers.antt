use Rattle.termrelay.proofs.FeedLaws.{feeds-joined, feeds-run}
use Rattle.termrelay.proofs.laws.feeds_are_joined.Goals as goal

pub returns : goal.returns
returns c = record { one = feeds-joined; run = feeds-run }
