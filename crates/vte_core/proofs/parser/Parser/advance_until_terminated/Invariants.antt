use Rattle.std.proofs.Common.{◌≡◌, ◌+◌, ◌-◌, ℕ, true, [], length, take, drop}
use Rattle.std.specs.Bool.{IsTrue}
use Rattle.vte_core.specs.Pending.{Pending, after_bytes}
use Rattle.vte_core.specs.Reads.{Reads}
use Rattle.vte_core.specs.Standing.{IsAt}
use Rattle.vte_core.specs.Stopping.{StopsAt}
use Rattle.vte_core.proofs.parser.Parser.advance_until_terminated.Given as goal

-- the bytes so far are read, and whatever reads the bytes that are left completes the run
abbrev pub invariant-loop-read : goal.invariant-loop-read
invariant-loop-read g l = record {
  reads : Reads g.P.Perform.step g.row.N l.initial.self l.initial.performer l.bytes l.read l.self l.performer;
  none : l.read ≡ 0 → reads.reported.reported ≡ [];
  stops : (q : Pending) → IsAt g.row.N l.initial.self q → (k : ℕ) (new : _)
      → StopsAt g.P.Perform.step g.P.Perform.is_terminated g.row.N (after_bytes q (take l.read l.bytes)) true
      (drop l.read l.bytes) l.performer k new
      → StopsAt g.P.Perform.step g.P.Perform.is_terminated g.row.N q true l.bytes l.initial.performer (l.read + k) new;
  already : IsTrue (g.P.Perform.is_terminated l.initial.performer) → (l.read ≡ 0)
      × (l.performer ≡ l.initial.performer) × (l.self ≡ l.initial.self);
}

abbrev pub decreases-loop-read : goal.decreases-loop-read
decreases-loop-read g l = length l.bytes - l.read
