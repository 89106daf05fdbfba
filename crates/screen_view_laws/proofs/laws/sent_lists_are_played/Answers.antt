use Rattle.screen_view_laws.proofs.SentPlaying.{sent-list-played}
use Rattle.screen_view_laws.proofs.laws.sent_lists_are_played.Goals as goal

pub returns : goal.returns
returns c = sent-list-played
