use Rattle.std.proofs.Common.{◌≡◌, List, drop}
use Rattle.recordings.specs.Recorded.{IsStateAfter, Row}
use Rattle.recordings.specs.declared.timeline.Pace.TheVariants.{FromLast}
use Rattle.recordings.proofs.FirstLemmas.{followed, outputs_of}
use Rattle.recordings.proofs.first_version.read_outputs.Given as goal

abbrev pub invariant-loop-output : goal.invariant-loop-output
invariant-loop-output l =
    (done : List Row) × IsStateAfter FromLast done l.timeline
    × (outputs_of l.outputs ≡ followed done (outputs_of (drop l.output-index l.outputs)))
