use Rattle.std.proofs.Common.{◌≤◌, length, map}
use Rattle.vte_types.specs.Call.{Calls, terminal_attribute}
use Rattle.vte.specs.Sgr.{attributes, nothing}
use Rattle.vte_core.specs.Store.{each_alone}
use Rattle.vte.proofs.sgr.set_numbers.Given as goal

-- the calls so far, and those of the numbers that are left, are all calls
abbrev pub invariant-loop-rest : goal.invariant-loop-rest
invariant-loop-rest g l = record {
  few : length l.rest ≤ length l.fn.numbers;
  calls : (end : _) → Calls g.H.Handler.step l.handler (map terminal_attribute (attributes nothing (each_alone l.rest)))
      end
      → Calls g.H.Handler.step l.fn.handler (map terminal_attribute (attributes nothing (each_alone l.fn.numbers))) end;
}

abbrev pub decreases-loop-rest : goal.decreases-loop-rest
decreases-loop-rest g l = length l.rest
