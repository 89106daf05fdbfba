use Rattle.std.proofs.Common.{◌≡◌, ◌+◌, take}
use Rattle.recordings.specs.Asciicast.{AreEvents, rows_of}
use Rattle.recordings.specs.Recorded.{IsStateAfter}
use Rattle.recordings.proofs.LineLemmas.{texts}
use Rattle.recordings.proofs.asciicast.read_lines.Given as goal

abbrev pub invariant-loop-line : goal.invariant-loop-line
invariant-loop-line l =
    AreEvents l.pace (take l.line-index (texts l.lines))
    × IsStateAfter l.pace (rows_of l.pace (take l.line-index (texts l.lines))) l.timeline
    × (l.number ≡ l.line-index + 1)
