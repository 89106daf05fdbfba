use Rattle.std.proofs.Common.{◌≡◌, drop}
use Rattle.std.specs.Str.{all_ascii_digits}
use Rattle.command_line.proofs.numbers.is_number.Given as goal

-- whether all are digits depends on the bytes that are left
abbrev pub invariant-loop-b : goal.invariant-loop-b
invariant-loop-b l = all_ascii_digits (drop l.b-index l.b-items) ≡ all_ascii_digits l.word
