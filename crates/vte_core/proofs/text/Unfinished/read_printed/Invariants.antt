use Rattle.std.proofs.Common.{◌≡◌, ◌-◌, ◌≤◌, length, take}
use Rattle.vte_core.specs.Event.{Performs}
use Rattle.vte_core.specs.Runs.{run_reported, run_rest}
use Rattle.vte_core.proofs.text.Unfinished.read_printed.Given as goal

abbrev pub invariant-loop-read : goal.invariant-loop-read
invariant-loop-read g l = record {
  within : l.read ≤ length l.bytes;
  reported : Performs g.P.Perform.step l.initial.performer
      (run_reported l.initial.self (take l.read l.bytes)) l.performer;
  rest : l.self ≡ run_rest l.initial.self (take l.read l.bytes);
}

abbrev pub decreases-loop-read : goal.decreases-loop-read
decreases-loop-read g l = length l.bytes - l.read
