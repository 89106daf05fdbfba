use Rattle.std.proofs.Common.{◌≤◌, ◌-◌, List, ℕ}
use Rattle.relay_streams.specs.Each.{TakesAll}
use Rattle.relay_streams.specs.Fill.{max_reads}
use Rattle.relay_streams.specs.Pieces.{piece_len}
use Rattle.relay_streams.proofs.PieceLemmas.{DrainsOn}
use Rattle.relay_streams.proofs.pieces.each_piece.Given as goal

-- the pieces that were read so far were taken
abbrev pub invariant-pieces : goal.invariant-pieces
invariant-pieces g l = record {
  most : l.reads ≤ max_reads;
  past : List (List ℕ);
  read : DrainsOn g.S.Source.gives piece_len l.fn.input l.input l.reads past;
  took : TakesAll g.P.TakesPieces.step l.fn.consumer l.fn.to past l.consumer l.to;
}

abbrev pub decreases-pieces : goal.decreases-pieces
decreases-pieces g l = max_reads - l.reads
