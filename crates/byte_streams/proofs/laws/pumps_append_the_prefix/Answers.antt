use Rattle.byte_streams.proofs.PumpLaws.{appends-prefix}
use Rattle.byte_streams.proofs.laws.pumps_append_the_prefix.Goals as goal

pub returns : goal.returns
returns g c = appends-prefix g.row.W.Denot g.W.Write.contents
