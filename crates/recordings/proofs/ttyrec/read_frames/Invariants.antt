use Rattle.std.proofs.Common.{◌≡◌, ◌++◌, length, map}
use Rattle.recordings.specs.Ttyrec.{piece_of, stored}
use Rattle.recordings.proofs.ttyrec.read_frames.Given as goal

-- the frames, and then what is left
abbrev pub invariant-loop-left : goal.invariant-loop-left
invariant-loop-left l = l.bytes ≡ stored (map piece_of l.frames.items) ++ l.left

abbrev pub decreases-loop-left : goal.decreases-loop-left
decreases-loop-left l = length l.left
