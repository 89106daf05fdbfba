use Rattle.byte_streams.proofs.PumpLaws.{takes-all, writes-nothing}
use Rattle.byte_streams.proofs.laws.pumps_take_all.Goals as goal

pub returns-clause-all : goal.returns-clause-all
returns-clause-all g c = takes-all g.row.T.Denot g.T.ByteSink.takes

pub returns-clause-nothing : goal.returns-clause-nothing
returns-clause-nothing g c = writes-nothing g.row.T.Denot g.T.ByteSink.takes
