use Rattle.std.proofs.Common.{◌≡◌, drop}
use Rattle.recordings.specs.Recorded.{said}
use Rattle.screentext_command.specs.Moments.{marker_time}
use Rattle.screentext_command.proofs.source.marker_time.Given as goal

-- no marker so far has the name
abbrev pub invariant-loop-event : goal.invariant-loop-event
invariant-loop-event l =
    marker_time l.name (said (drop l.event-index l.events)) ≡ marker_time l.name (said l.events)
