use Rattle.std.proofs.Common.{◌≡◌, ◌-◌, ◌≤◌, ◌++◌, true, List, length, take, drop}
use Rattle.vte_core.specs.Bytes.{is_esc}
use Rattle.vte_core.specs.Event.{Event, Performs}
use Rattle.vte_core.specs.Runs.{run_reported, run_rest, has_no_esc}
use Rattle.vte_core.specs.Shapes.{before}
use Rattle.vte_core.proofs.text.Unfinished.read.Given as goal

-- the events so far, and those of the rest of the text, are those of the whole text
abbrev pub invariant-loop-read : goal.invariant-loop-read
invariant-loop-read g l = record {
  within : l.read ≤ length l.bytes;
  no_esc : has_no_esc (take l.read l.bytes) ≡ true;
  reported : List Event;
  performed : Performs g.P.Perform.step l.fn.performer reported l.performer;
  added : run_reported l.fn.self (before is_esc l.bytes)
      ≡ reported ++ run_reported l.self (drop l.read (before is_esc l.bytes));
  rest : run_rest l.fn.self (before is_esc l.bytes) ≡ run_rest l.self (drop l.read (before is_esc l.bytes));
}

abbrev pub decreases-loop-read : goal.decreases-loop-read
decreases-loop-read g l = length l.bytes - l.read
