use Rattle.std.proofs.Common.{◌≡◌, ◌++◌, length, take, drop, map}
use Rattle.vte_core.specs.Store.{cut_at, EndsRise}
use Rattle.vte_core.proofs.osc_data.report.Given as goal

abbrev pub invariant-loop-i : goal.invariant-loop-i
invariant-loop-i g l = record {
  rise : EndsRise l.start (drop l.i l.ends) l.bytes;
  room : length l.pieces ≡ 16;
  so_far : map (λ p. p.now) (take l.i l.pieces) ++ cut_at l.start (drop l.i l.ends) l.bytes ≡ cut_at 0 l.ends l.bytes;
}
