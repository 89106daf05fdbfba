use Rattle.std.proofs.Common.{◌≡◌, ◌-◌, length, []}
use Rattle.vte_core.specs.Reads.{Reads}
use Rattle.vte_core.proofs.parser.Parser.advance.Given as goal

-- the bytes so far are read
abbrev pub invariant-loop-read : goal.invariant-loop-read
invariant-loop-read g l = record {
  reads : Reads g.P.Perform.step g.row.N l.initial.self l.initial.performer l.bytes l.read l.self l.performer;
  none : l.read ≡ 0 → reads.reported.reported ≡ [];
}

abbrev pub decreases-loop-read : goal.decreases-loop-read
decreases-loop-read g l = length l.bytes - l.read
