use Rattle.std.proofs.Common.{Ok, Err, refl}
use Rattle.byte_streams.proofs.SendLemmas.{text-appends, text-part}
use Rattle.byte_streams.proofs.laws.sent_texts_append.Goals as goal

pub returns : goal.returns
returns g c = λ w v text. (
  λ sent. text-appends g.row.W.Denot g.W.ByteSink.takes g.W.FlushSink.contents g.met.W.FlushSink.tells w v text (Ok tt)
      sent refl,
  λ e sent. text-part g.row.W.Denot g.W.ByteSink.takes g.W.FlushSink.contents g.met.W.FlushSink.tells w v text (Err e) e
      sent refl,
)
