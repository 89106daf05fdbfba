use Rattle.std.proofs.Common.{◌≡◌, drop}
use Rattle.std.specs.List.{list_all}
use Rattle.std.specs.Char.{is_ascii_whitespace}
use Rattle.recordings.proofs.lines.is_blank.Given as goal

-- whether all are white space depends on the bytes that are left
abbrev pub invariant-loop-b : goal.invariant-loop-b
invariant-loop-b l = list_all is_ascii_whitespace (drop l.b-index l.line) ≡ list_all is_ascii_whitespace l.fn.line
