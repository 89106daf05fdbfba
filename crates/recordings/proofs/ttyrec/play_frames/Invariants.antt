use Rattle.std.proofs.Common.{map, take}
use Rattle.recordings.specs.Recorded.{IsStateAfter}
use Rattle.recordings.specs.Ttyrec.{piece_of, rows_after, start_of}
use Rattle.recordings.specs.declared.timeline.Pace.TheVariants.{FromStart}
use Rattle.recordings.proofs.ttyrec.play_frames.Given as goal

abbrev pub invariant-loop-frame : goal.invariant-loop-frame
invariant-loop-frame l =
    IsStateAfter FromStart (rows_after (start_of (map piece_of l.frames)) (take l.frame-index (map piece_of l.frames)))
    l.timeline
