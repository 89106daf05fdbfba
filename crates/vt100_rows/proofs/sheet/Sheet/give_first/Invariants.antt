use Rattle.std.proofs.Common.{take}
use Rattle.vt100_rows.specs.Sink.{TakesAll}
use Rattle.vt100_rows.proofs.sheet.Sheet.give_first.Given as goal

abbrev pub invariant-loop-r : goal.invariant-loop-r
invariant-loop-r g l = TakesAll g.S.RowSink.takes l.initial.sink (take l.r l.self) l.sink
