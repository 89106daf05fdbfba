use Rattle.std.proofs.Common.{◌≡◌, ◌++◌, map, length}
use Rattle.std.specs.List.{concat}
use Rattle.c_objects.proofs.rows.join.Given as goal

-- what is joined, and what is left, are all rows
abbrev pub invariant-loop-row : goal.invariant-loop-row
invariant-loop-row l = record {
  text : concat l.fn.rows ≡ l.text.items ++ concat l.rows;
  lengths : map length l.fn.rows ≡ l.lengths.items ++ map length l.rows;
}

abbrev pub decreases-loop-row : goal.decreases-loop-row
decreases-loop-row l = length l.rows
