use Rattle.recordings.proofs.FrameLemmas.{next_stored}
use Rattle.recordings.proofs.ttyrec.read_frames.Goals as goal

pub loop-left-preserved : goal.loop-left-preserved
loop-left-preserved c =
    next_stored c.args.bytes.now c.loop-left.left.now c.in-Some.after.now c.loop-left.frames.items c.push.new.self.items
    c.in-Some.frame
    c.loop-left.invariant c.in-Some.ensures.0 c.in_ok-push-in-Some.ensures.items
