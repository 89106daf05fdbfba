use Rattle.std.proofs.Common.{◌≡◌, List, Some, take}
use Rattle.recordings.specs.Recorded.{Row, IsStateAfter}
use Rattle.recordings.specs.Typescript.{events_of}
use Rattle.recordings.specs.declared.timeline.Pace.TheVariants.{FromLast}
use Rattle.recordings.proofs.LineLemmas.{texts}
use Rattle.recordings.proofs.typescript.read_steps.Given as goal

-- the lines so far, and the output that is left
abbrev pub invariant-loop-index : goal.invariant-loop-index
invariant-loop-index l =
    (rows : List Row) × (events_of l.shared l.output (take l.index (texts l.lines)) ≡ Some (rows, l.left))
    × IsStateAfter FromLast rows l.timeline
