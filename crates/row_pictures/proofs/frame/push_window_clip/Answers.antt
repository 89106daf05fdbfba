use Rattle.row_pictures.proofs.FrameLemmas.{clip_added}
use Rattle.row_pictures.proofs.frame.push_window_clip.Goals as goal

pub returns-in-Some-clause-bytes : goal.returns-in-Some-clause-bytes
returns-in-Some-clause-bytes c =
    clip_added _ _ _ c.args.frame.now c.args.width c.args.height _ c.in-Some.is c.push_clip.ensures.bytes
