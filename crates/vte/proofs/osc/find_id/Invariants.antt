use Rattle.std.proofs.Common.{◌≡◌, ◌+◌, find, length, nat_eq, codes, Option, Some, None, ℕ, List, Bor}
use Rattle.std.specs.List.{starts_with}
use Rattle.std.specs.Option.{option_map}
use Rattle.vte.specs.Split.{parts_after}
use Rattle.vte.proofs.osc.find_id.Given as goal

abbrev left : Option (Bor (List ℕ)) → ℕ
left None = 0
left (Some t) = length t.now + 1

-- the first id is among the remaining parts
abbrev pub invariant-loop-rest : goal.invariant-loop-rest
invariant-loop-rest l =
    find (λ part. starts_with nat_eq part (codes "id=")) (parts_after 58 (option_map (λ t. t.now) l.rest))
    ≡ find (λ part. starts_with nat_eq part (codes "id=")) (parts_after 58 (option_map (λ t. t.now) l.initial.rest))

abbrev pub decreases-loop-rest : goal.decreases-loop-rest
decreases-loop-rest l = left l.rest
