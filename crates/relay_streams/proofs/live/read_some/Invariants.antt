use Rattle.std.proofs.Common.{◌≡◌, ◌≤◌, ◌+◌, ◌-◌, ℕ, length}
use Rattle.relay_streams.specs.Fill.{max_reads}
use Rattle.relay_streams.proofs.LiveLemmas.{TriesOn}
use Rattle.relay_streams.proofs.live.read_some.Given as goal

-- the reads so far were interrupted
abbrev pub invariant-reading : goal.invariant-reading
invariant-reading g l = record {
  most : l.reads ≤ max_reads;
  made : ℕ;
  counted : l.reads ≡ l.fn.reads + made;
  room : length l.room ≡ length l.fn.room;
  tries : TriesOn g.S.Source.gives (length l.fn.room) l.fn.input l.input made;
}

abbrev pub decreases-reading : goal.decreases-reading
decreases-reading g l = max_reads - l.reads
