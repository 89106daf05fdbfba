use Rattle.screen_view_laws.proofs.Agreeing.{new-agree}
use Rattle.screen_view_laws.proofs.laws.new_ones_agree.Goals as goal

pub returns : goal.returns
returns c = new-agree
