use Rattle.std.proofs.Common.{◌≡◌, ◌++◌, drop, map, codes, List, ℕ}
use Rattle.std.specs.List.{flat_map}
use Rattle.c_objects.specs.Queue.{drafted}
use Rattle.c_objects.specs.Requests.{osc_text}
use Rattle.c_objects.proofs.told.push_osc.Given as goal

-- the text so far, and the pieces that are left, make up the whole text
abbrev pub invariant-loop-piece : goal.invariant-loop-piece
invariant-loop-piece l =
    drafted (l.draft ++ flat_map (λ (y : List ℕ). codes ";" ++ y) (map (λ p. p.now) (drop l.piece-index l.rest)))
    ≡ drafted (l.fn.draft ++ osc_text (map (λ p. p.now) l.fn.pieces))
