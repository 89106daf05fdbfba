use Rattle.screen_view_laws.proofs.Playing.{list-played}
use Rattle.screen_view_laws.proofs.laws.lists_are_played.Goals as goal

pub returns : goal.returns
returns c = list-played
