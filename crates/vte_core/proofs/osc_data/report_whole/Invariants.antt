use Rattle.std.proofs.Common.{◌≡◌, ◌<◌, ◌≤◌, ◌++◌, length, take, map}
use Rattle.vte_core.specs.Store.{pieces_of}
use Rattle.vte_core.proofs.osc_data.report_whole.Given as goal

-- the pieces so far, and those of the rest, are all pieces
abbrev pub invariant-loop-rest : goal.invariant-loop-rest
invariant-loop-rest g l = record {
  untold : l.performer ≡ l.fn.performer;
  few : l.count < 16;
  shorter : length l.rest ≤ length l.data;
  room : length l.pieces ≡ 16;
  so_far : map (λ p. p.now) (take l.count l.pieces) ++ pieces_of l.rest ≡ pieces_of l.data;
}

abbrev pub decreases-loop-rest : goal.decreases-loop-rest
decreases-loop-rest g l = length l.rest
