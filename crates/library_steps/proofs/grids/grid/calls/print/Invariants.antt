use Rattle.vt100_core.specs.Grid.{IsAllocated}
use Rattle.library_steps.proofs.grids.grid.calls.print.Given as goal

abbrev pub invariant-loop-c : goal.invariant-loop-c
invariant-loop-c l = IsAllocated l.grid
