use Rattle.screen_view_laws.proofs.Playing.{form-played}
use Rattle.screen_view_laws.proofs.laws.forms_are_played.Goals as goal

pub returns : goal.returns
returns c = form-played
