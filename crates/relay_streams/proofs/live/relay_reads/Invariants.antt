use Rattle.std.proofs.Common.{◌≤◌, ◌-◌, List, [], ℕ, None}
use Rattle.std.specs.List.{concat}
use Rattle.charset_filter.specs.declared.lines.LineDrawing.{LineDrawing}
use Rattle.charset_filter.specs.Lines.{HasPassed}
use Rattle.relay_streams.specs.Fill.{max_reads}
use Rattle.relay_streams.specs.Live.{live_len, Listens}
use Rattle.relay_streams.specs.Turns.{Relaying}
use Rattle.relay_streams.specs.Updates.{HasSearched, cut_pieces}
use Rattle.relay_streams.proofs.LiveLemmas.{Sent}
use Rattle.relay_streams.proofs.live.relay_reads.Given as goal

-- the pieces that were read so far were searched and cut, have passed and were fed, and their frames were sent
abbrev pub invariant-reads : goal.invariant-reads
invariant-reads g l = record {
  most : l.reads ≤ max_reads;
  past : List (List ℕ);
  read : Listens g.S.Source.gives live_len l.fn.input l.reads past l.input;
  searched : HasSearched l.ends (concat past);
  passes : (lines : LineDrawing) → HasPassed l.fn.filter lines [] → HasPassed l.filter lines (concat past);
  sent : (rows cols : ℕ) (lines : LineDrawing) → Relaying rows cols [] None l.fn.hub l.fn.client
      → HasPassed l.fn.filter lines []
      → Sent g.W.ByteSink.takes g.W.FlushSink.flushes rows cols lines (cut_pieces past) l.fn.client l.hub l.fn.output
      l.output;
}

abbrev pub decreases-reads : goal.decreases-reads
decreases-reads g l = max_reads - l.reads
