use Rattle.std.proofs.Common.{◌≡◌, ◌≤◌, ◌<◌, ◌+◌, ◌-◌, ℕ, false, length}
use Rattle.vte.specs.Marks.{is_found_at}
use Rattle.vte.proofs.marks.first_mark.Given as goal

-- no mark is in the text whose third byte is before `next`
abbrev pub invariant-loop-at : goal.invariant-loop-at
invariant-loop-at l = record {
  within : l.next ≤ length l.text;
  above : l.from ≤ l.next;
  none : (k : ℕ) → l.from ≤ k → k + 2 < l.next → is_found_at l.mark l.text k ≡ false;
}

abbrev pub decreases-loop-at : goal.decreases-loop-at
decreases-loop-at l = length l.text - l.next
