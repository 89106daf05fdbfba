use Rattle.std.proofs.Common.{◌∙◌, ◌-◌, ap₂, arith, map, rules, take}
use Rattle.recordings.specs.Ttyrec.{piece_of, rows_after, start_of}
use Rattle.recordings.proofs.FrameLemmas.{next_played}
use Rattle.recordings.proofs.ttyrec.play_frames.Goals as goal

pub loop-frame-preserved : goal.loop-frame-preserved
loop-frame-preserved c =
    next_played c.args.frames.now c.loop-frame.frame-index _ (start_of (map piece_of c.args.frames.now)) _ _ _
    (omega arith)
    (c.saturating_sub-time.ensures ∙ ap₂ (λ m n. m - n) c.time_of.ensures c.start_time-start.ensures)
    (c.in_ok-to_vec.ensures.items_if_clones_equal (search rules))
    (c.in_ok-push.ensures _ (rows_after (start_of (map piece_of c.args.frames.now))
    (take c.loop-frame.frame-index (map piece_of c.args.frames.now))) c.loop-frame.invariant)
