use Rattle.std.proofs.Common.{◌≡◌, ◌++◌, take, drop, map}
use Rattle.termrelay.specs.Log.{ended}
use Rattle.termrelay.proofs.runs.session.end_all.Given as goal

-- those before it have ended
abbrev pub invariant-loop-session : goal.invariant-loop-session
invariant-loop-session l =
    l.sessions ≡ map ended (take l.session-index l.initial.sessions) ++ drop l.session-index l.initial.sessions
