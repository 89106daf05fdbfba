use Rattle.std.proofs.Common.{◌≡◌, take}
use Rattle.vt100_rows.proofs.kept_rows.clone_kept.Given as goal

abbrev pub invariant-loop-j : goal.invariant-loop-j
invariant-loop-j l = l.copy.items ≡ take l.j l.rows.items
