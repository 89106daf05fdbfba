use Rattle.std.proofs.Common.{◌≡◌, ◌==◌, ◌-◌, ◌<◌, false, true, not, length}
use Rattle.vte_core.specs.Reads.{Reads, ReadsAsked}
use Rattle.vte_core.specs.Standing.{state_is_text}
use Rattle.vte_core.proofs.parser.Parser.read_outside.Given as goal

-- the bytes so far are read, some are left, it isn't ground text that is read, and a performer that is asked goes on
abbrev pub invariant-loop-read : goal.invariant-loop-read
invariant-loop-read g l = record {
  reads : Reads g.P.Perform.step g.row.N l.initial.self l.initial.performer l.bytes l.read l.self l.performer;
  left : l.read < length l.bytes;
  inside : state_is_text l.self.state ≡ false;
  asked : not (g.row.ASKED == 0) ≡ true → g.P.Perform.is_terminated l.initial.performer ≡ false
      → ReadsAsked g.P.Perform.step g.P.Perform.is_terminated g.row.N l.initial.self l.initial.performer l.bytes l.read
      l.self l.performer;
  goes_on : not (g.row.ASKED == 0) ≡ true → g.P.Perform.is_terminated l.initial.performer ≡ false
      → g.P.Perform.is_terminated l.performer ≡ false;
}

abbrev pub decreases-loop-read : goal.decreases-loop-read
decreases-loop-read g l = length l.bytes - l.read
