use Rattle.relay_streams.proofs.EachLemmas.{streams-of}
use Rattle.relay_streams.proofs.relaying.relay_pieces.Goals as goal

pub returns : goal.returns
returns g c = λ rows cols at.
    streams-of g.row.S.Denot g.row.W.Denot g.S.Source.gives g.W.ByteSink.takes rows cols _ _ _ _ _ _ _ at
    c.each_piece.ensures
