use Rattle.relay_streams.proofs.EachLemmas.{viewed-of}
use Rattle.relay_streams.proofs.showing.read_view.Goals as goal

pub returns : goal.returns
returns g c = viewed-of _ _ _ _ _ _ _ c.each_piece.ensures
