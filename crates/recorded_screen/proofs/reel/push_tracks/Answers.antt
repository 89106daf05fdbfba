use Rattle.recorded_screen.specs.Reel.{track_bytes}
use Rattle.recorded_screen.proofs.ReelLemmas.{tracks_more}
use Rattle.recorded_screen.proofs.reel.push_tracks.Goals as goal

pub loop-number-preserved : goal.loop-number-preserved
loop-number-preserved c =
    tracks_more (track_bytes c.args.cols c.args.poster) _ _ _ c.args.tracks.now c.loop-number.number
    c.index-tracks-number.result
    c.loop-number-test.true c.index-tracks-number.is c.loop-number.invariant c.in_ok-push_track.ensures
