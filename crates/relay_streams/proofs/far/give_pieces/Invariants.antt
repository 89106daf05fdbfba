use Rattle.std.proofs.Common.{◌≡◌, ◌++◌, List, ℕ, drop}
use Rattle.relay_streams.specs.Led.{Led}
use Rattle.relay_streams.specs.Pieces.{cut_by}
use Rattle.relay_streams.proofs.far.give_pieces.Given as goal

-- the pieces so far were given, and the others follow
abbrev pub invariant-loop-cut : goal.invariant-loop-cut
invariant-loop-cut l = record {
  past : List (List ℕ);
  led : Led l.fn.view past l.view;
  follows : cut_by l.fn.cuts l.fn.bytes ≡ past ++ cut_by (drop l.cut-index l.fn.cuts) l.left;
}
