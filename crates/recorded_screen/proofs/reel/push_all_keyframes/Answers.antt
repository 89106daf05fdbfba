use Rattle.std.proofs.Common.{[], ◌++◌, ◌∙◌, ap, length, nat_lt}
use Rattle.std.specs.Prelude.{if◌then◌else◌}
use Rattle.recorded_screen.specs.Reel.{keyframes, track_times}
use Rattle.recorded_screen.proofs.ReelLemmas.{tracks_more}
use Rattle.recorded_screen.proofs.reel.push_all_keyframes.Goals as goal

pub loop-number-preserved : goal.loop-number-preserved
loop-number-preserved c =
    let cols = c.args.cols in
    let showing = c.args.showing in
    tracks_more (track_times cols showing) _ _ _ c.args.tracks.now c.loop-number.number
    c.index-tracks-number.result c.loop-number-test.true c.index-tracks-number.is c.loop-number.invariant
    (c.in_ok-push_keyframes_if.ensures
    ∙ ap (λ shots. c.loop-number.page
    ++ (if nat_lt 1 (length shots) then keyframes cols showing c.loop-number.number shots else []))
    c.deref.ensures.value)
