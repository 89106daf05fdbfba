use Rattle.std.proofs.Common.{map, refl}
use Rattle.recordings.specs.Ttyrec.{piece_of}
use Rattle.recordings.proofs.FrameLemmas.{frames_read}
use Rattle.recordings.proofs.ttyrec.read_ttyrec.Goals as goal

pub returns : goal.returns
returns c =
    frames_read c.args.bytes.now (map piece_of c.in_ok-frames.frames.items) _ c.in_ok-timeline.timeline _ _
    c.in_ok-frames.ensures (rw c.deref.ensures.value at c.in_ok-timeline.ensures) refl refl refl refl refl
    c.byte_fault.ensures
