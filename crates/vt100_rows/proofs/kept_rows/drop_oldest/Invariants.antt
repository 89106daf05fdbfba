use Rattle.std.proofs.Common.{◌≡◌, take, drop}
use Rattle.vt100_rows.specs.Sink.{TakesAll}
use Rattle.vt100_rows.proofs.kept_rows.drop_oldest.Given as goal

abbrev pub invariant-loop-i : goal.invariant-loop-i
invariant-loop-i g l = record {
  kept : l.rows.items ≡ drop l._i l.initial.rows.items;
  sink : TakesAll g.S.RowSink.takes l.initial.sink (take l._i l.initial.rows.items) l.sink;
}
