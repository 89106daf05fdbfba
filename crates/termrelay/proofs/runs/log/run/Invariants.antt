use Rattle.std.proofs.Common.{map, take}
use Rattle.termrelay.specs.Calls.{call_of}
use Rattle.termrelay.specs.Log.{MadeAll}
use Rattle.termrelay.proofs.runs.log.run.Given as goal

-- the calls before it have been made
abbrev pub invariant-loop-call : goal.invariant-loop-call
invariant-loop-call l =
    MadeAll l.fn.hub l.fn.log (map call_of (take l.call-index l.calls)) l.hub l.log
