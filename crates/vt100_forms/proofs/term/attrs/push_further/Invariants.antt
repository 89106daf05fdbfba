use Rattle.std.proofs.Common.{◌≡◌, ◌≤◌, ◌+◌, ◌*◌, length, ◌++◌, take}
use Rattle.vt100_forms.specs.Form.{further_numbers}
use Rattle.vt100_forms.proofs.term.attrs.push_further.Given as goal

abbrev pub invariant-loop-n : goal.invariant-loop-n
invariant-loop-n l =
    (l.run ≡ l.initial.run ++ further_numbers (take l.n-index l.numbers))
    × (length l.run ≤ length l.initial.run + 4 * l.n-index)
