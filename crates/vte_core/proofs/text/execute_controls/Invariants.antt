use Rattle.std.proofs.Common.{◌-◌, length}
use Rattle.vte_core.specs.Bytes.{is_c0}
use Rattle.vte_core.specs.Event.{Execute}
use Rattle.vte_core.specs.Runs.{TellsEach}
use Rattle.vte_core.proofs.text.execute_controls.Given as goal

abbrev pub invariant-loop-read : goal.invariant-loop-read
invariant-loop-read g l = TellsEach g.P.Perform.step is_c0 Execute l.fn.performer l.bytes l.read l.performer

abbrev pub decreases-loop-read : goal.decreases-loop-read
decreases-loop-read g l = length l.bytes - l.read
