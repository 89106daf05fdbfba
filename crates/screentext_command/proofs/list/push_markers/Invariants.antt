use Rattle.std.proofs.Common.{◌≡◌, ◌++◌, take}
use Rattle.std.specs.Prelude.{string_bytes}
use Rattle.std.specs.List.{flat_map}
use Rattle.recordings.specs.Recorded.{said}
use Rattle.screentext_command.specs.Listed.{marker_line}
use Rattle.screentext_command.proofs.list.push_markers.Given as goal

-- the lines of the events so far
abbrev pub invariant-loop-event : goal.invariant-loop-event
invariant-loop-event l =
    string_bytes l.text ≡ string_bytes l.fn.text ++ flat_map marker_line (said (take l.event-index l.events))
