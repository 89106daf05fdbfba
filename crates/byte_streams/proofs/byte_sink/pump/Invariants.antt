use Rattle.std.proofs.Common.{length, ◌-◌, ℕ, Result, ◌+◌, ◌≤◌, drop}
use Rattle.std.specs.declared.io.Error.{Error}
use Rattle.byte_streams.specs.Pump.{Pumps}
use Rattle.byte_streams.proofs.byte_sink.pump.Given as goal

-- a pump of the bytes that are left completes the whole pump
abbrev pub invariant-writes : goal.invariant-writes
invariant-writes g l = record {
  within : l.taken ≤ length l.owed;
  goes_on : (answer : Result (Unit {0}) Error) (k : ℕ) (t : g.row.T.Denot)
      → Pumps g.T.ByteSink.takes l.to (drop l.taken l.owed) answer k t
      → Pumps g.T.ByteSink.takes l.fn.to l.owed answer (l.taken + k) t;
}

abbrev pub decreases-writes : goal.decreases-writes
decreases-writes g l = length l.owed - l.taken
