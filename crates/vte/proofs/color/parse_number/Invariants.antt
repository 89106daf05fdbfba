use Rattle.std.proofs.Common.{◌≡◌, ◌<◌, length}
use Rattle.vte.specs.Osc.{byte_from}
use Rattle.vte.proofs.color.parse_number.Given as goal

-- the remaining digits, after the number so far, write the same number as all digits
abbrev pub invariant-loop-digit : goal.invariant-loop-digit
invariant-loop-digit l = record {
  same : byte_from l.number l.rest ≡ byte_from 0 l.initial.rest;
  small : l.number < 256;
}

abbrev pub decreases-loop-digit : goal.decreases-loop-digit
decreases-loop-digit l = length l.rest
