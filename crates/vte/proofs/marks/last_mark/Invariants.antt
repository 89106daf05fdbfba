use Rattle.std.proofs.Common.{◌≡◌, ◌≤◌, ◌+◌, ℕ, false, length}
use Rattle.vte.specs.Marks.{is_found_at}
use Rattle.vte.proofs.marks.last_mark.Given as goal

-- no mark is in the text whose third byte is at `end` or later
abbrev pub invariant-loop-at : goal.invariant-loop-at
invariant-loop-at l = record {
  within : l.end ≤ length l.text;
  above : l.from ≤ l.end;
  none : (k : ℕ) → l.from ≤ k → l.end ≤ k + 2 → is_found_at l.mark l.text k ≡ false;
}

abbrev pub decreases-loop-at : goal.decreases-loop-at
decreases-loop-at l = l.end
