use Rattle.std.proofs.Common.{◌≡◌, ◌≤◌, ◌+◌, ◌-◌, ℕ, take, length}
use Rattle.relay_streams.specs.Fill.{max_reads}
use Rattle.relay_streams.proofs.FillLemmas.{GoesOn}
use Rattle.relay_streams.proofs.filling.fill.Given as goal

-- the start of the piece is what the reads so far gave
abbrev pub invariant-reading : goal.invariant-reading
invariant-reading g l = record {
  within : l.len ≤ length l.piece;
  made : ℕ;
  most : l.fn.reads ≤ max_reads → l.reads ≤ max_reads;
  spent : max_reads ≤ l.fn.reads → made ≡ 0;
  counted : l.reads ≡ l.fn.reads + made;
  goes_on : GoesOn g.S.Source.gives l.fn.input (length l.fn.piece) l.input (length l.piece - l.len) made
      (take l.len l.piece);
}

abbrev pub decreases-reading : goal.decreases-reading
decreases-reading g l = max_reads - l.reads
